use native.Mathlib.Omega.{arith}
use lib.Count.{leading_length}
use Rattle.elimination.proofs.Shifts.{still_large, small_then}
use Rattle.elimination.proofs.row.nearly.Goals as goal

pub returns : goal.returns
returns c =
    let t = c.args.t in
    let m = leading_length 64 t (omega arith) in
    (omega arith, λ j h. still_large t m.0 j m.3 (omega (arith, m.1)), small_then t m.0 c.saturating_sub.result m.2 (omega (arith, m.1)))
