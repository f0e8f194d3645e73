use native.Mathlib.Omega.{arith}
use Rattle.egorstream.proofs.Limiting.{place_small, limits_refused, limits_judged}
use Rattle.egorstream.proofs.limits.egorstream_limit.Goals as goal

pub overflow_cast-result : goal.overflow_cast-result
overflow_cast-result c = omega (arith, place_small c.judge.ensures c.in-Err.is)

pub returns-in-Ok : goal.returns-in-Ok
returns-in-Ok c = limits_judged c.judge.ensures c.in-Ok.is c.verdict_number.ensures

pub returns-in-Err : goal.returns-in-Err
returns-in-Err c = rw c.number.ensures.0 (limits_refused c.judge.ensures c.in-Err.is)
