use native.Mathlib.Omega.{arith}
use Rattle.egorstream.proofs.Reaching.{reached, place_small}
use Rattle.egorstream.proofs.within.egorstream_within.Goals as goal

pub overflow_cast-result : goal.overflow_cast-result
overflow_cast-result c = omega (arith, place_small c.within.ensures c.in-Err.is)

pub returns-in-Err : goal.returns-in-Err
returns-in-Err c = rw c.number.ensures.0 (reached c.within.ensures c.in-Err.is)

pub returns-in-Ok : goal.returns-in-Ok
returns-in-Ok c = reached c.within.ensures c.in-Ok.is
