use native.Mathlib.Omega.{arith}
use Rattle.egorstream.proofs.Ordering.{said, place_small}
use Rattle.egorstream.proofs.order.egorstream_order.Goals as goal

pub overflow_cast-result : goal.overflow_cast-result
overflow_cast-result c = omega (arith, place_small c.in-Err.r (said c.in-Err.is c.chosen.ensures))

pub returns-in-Ok : goal.returns-in-Ok
returns-in-Ok c = said c.in-Ok.is c.chosen.ensures

pub returns-in-Err : goal.returns-in-Err
returns-in-Err c = rw c.number.ensures.0 (said c.in-Err.is c.chosen.ensures)
