use native.Mathlib.Omega.{arith}
use Rattle.theory.specs.Numbers.Shift.{pow_whole}
use Rattle.elimination.proofs.Shifts.{pow_small, one_shifted}
use Rattle.elimination.proofs.row.up.Goals as goal

pub overflow_add-result : goal.overflow_add-result
overflow_add-result c = omega (arith, one_shifted c.args.k (omega arith), pow_small c.args.k (omega arith))

pub overflow_sub-result : goal.overflow_sub-result
overflow_sub-result c = omega (arith, one_shifted c.args.k (omega arith), pow_whole c.args.k)

pub returns : goal.returns
returns c = rw (one_shifted c.args.k c.requires.1)
