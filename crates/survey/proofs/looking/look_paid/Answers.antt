use mathlib.Core.Path.{refl}
use Rattle.look.proofs.Refuse.{well, scanned, seen, handed}
use Rattle.survey.specs.Looking.{looked}
use Rattle.survey.proofs.looking.look_paid.Goals as goal

pub returns-in_err-sets : goal.returns-in_err-sets
returns-in_err-sets c = handed (looked _ _) _ _ c.from_residual.ensures.1 (c.in_err-sets.ensures _ refl)

pub returns-in_err-refuse : goal.returns-in_err-refuse
returns-in_err-refuse c =
    let s = c.in_ok-sets.ensures c.args.rewards.now refl in
    handed (looked _ _) _ _ c.from_residual-in_err-refuse.ensures.1 (seen s.0 c.too_large.ensures refl c.in_err-refuse.ensures)

pub returns : goal.returns
returns c =
    let s = c.in_ok-sets.ensures c.args.rewards.now refl in
    (well (scanned s.0 c.too_large.ensures c.in_ok-refuse.ensures), s.1)
