use mathlib.Core.Path.{refl}
use mathlib.Core.List.{[]}
use Rattle.meaning.specs.Refusal.{bare_of, WellFormed}
use Rattle.meaning.specs.Survey.{SurveyOutcome, refused}
use Rattle.theory.specs.Outcomes.Formed.{few_states, denominators_length}
use Rattle.chain.specs.Given.{with}
use Rattle.look.proofs.Refuse.{refusing, clear, handed}
use Rattle.survey.specs.Told.{told}
use Rattle.survey.proofs.Surveyed.{start_fits, ends_fit, counted}
use Rattle.survey.proofs.along.Goals as goal
use Rattle.survey.proofs.along.Goals.{In_ok-alone}

formed : (c : In_ok-alone) → WellFormed (bare_of c.args.short) (with c.args.g.now [] [] [])
formed c = clear c.alone.ensures c.in_ok-alone.was

pub returns-in_err-alone : goal.returns-in_err-alone
returns-in_err-alone c =
    handed (λ a. SurveyOutcome c.args.short (with c.args.g.now [] [] []) (told a)) _ _ c.from_residual.ensures.1
    (refused _ _ (refusing c.alone.ensures c.in_err-alone.was) refl)

pub sets-sets-requires : goal.sets-sets-requires
sets-sets-requires c =
    let f = formed (goal.at.sets-sets-requires c).In_ok-alone in
    let s = c.args.short in
    let l = with c.args.g.now [] [] [] in
    record { start_fits = (start_fits s l f, few_states (bare_of s) l f, denominators_length (bare_of s) l f); ends_right = ends_fit s l f }

pub returns : goal.returns
returns c = counted c.args.short (with c.args.g.now [] [] []) (formed (goal.at.returns c).In_ok-alone) _ c.sets-sets.ensures
