use mathlib.Core.Path.{refl, ap, ◌∙◌}
use Rattle.std.proofs.Common.{Ok}
use native.Mathlib.Omega.{arith}
use Rattle.egorstream.proofs.Checking.{checked, place_small, state_small}
use Rattle.egorstream.proofs.check.egorstream_check.Goals as goal

pub overflow_cast-result : goal.overflow_cast-result
overflow_cast-result c = omega (arith, place_small c.check.ensures c.in-Err.is)

pub overflow_cast-result-in-Ok-No : goal.overflow_cast-result-in-Ok-No
overflow_cast-result-in-Ok-No c = omega (arith, state_small c.check.ensures (c.in-Ok-No.is ∙ ap Ok c.in-Ok-No.field-0-is))

pub returns-in-Err : goal.returns-in-Err
returns-in-Err c = rw c.number.ensures.0 (checked c.check.ensures c.in-Err.is refl)

pub returns-in-Ok-Yes : goal.returns-in-Ok-Yes
returns-in-Ok-Yes c = checked c.check.ensures (c.in-Ok-Yes.is ∙ ap Ok c.in-Ok-Yes.field-0-is) refl

pub returns-in-Ok-No : goal.returns-in-Ok-No
returns-in-Ok-No c = checked c.check.ensures (c.in-Ok-No.is ∙ ap Ok c.in-Ok-No.field-0-is) refl
