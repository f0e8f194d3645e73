use native.Mathlib.Omega.{arith}
use lib.Count.{ones-le}
use Rattle.chain.proofs.bits.count.Goals as goal

pub overflow_cast-result : goal.overflow_cast-result
overflow_cast-result c = record { fits = omega (arith, ones-le 64 c.args.set (omega arith)) }
