use Prim.Native.Nat.{◌%◌}
use native.Mathlib.Omega.{arith}
use Rattle.meaning.specs.Chain.{most_states}
use Rattle.theory.specs.Numbers.Bits.{one_set}
use Rattle.chain.proofs.bits.alone.Goals as goal

pub returns : goal.returns
returns c = one_set (c.args.j % most_states) (omega arith)
