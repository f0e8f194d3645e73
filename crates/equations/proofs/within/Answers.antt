use mathlib.Core.Path.{refl, ap}
use mathlib.Core.List.{[]}
use borrow.Author.Rules.{rules}
use Rattle.meaning.specs.Within.{within, many_steps, refused, answered}
use Rattle.chain.specs.Given.{with}
use Rattle.look.proofs.Refuse.{refusing, clear, handed}
use Rattle.equations.specs.Told.{Withins}
use Rattle.equations.proofs.within.Goals as goal

pub returns-then-steps-gt-STEPS : goal.returns-then-steps-gt-STEPS
returns-then-steps-gt-STEPS c =
    rw (c.from.ensures.0, c.from.ensures.1) (many_steps (search rules) refl)

pub returns-in_err-bare : goal.returns-in_err-bare
returns-in_err-bare c =
    handed (Withins (with c.args.g.now [] [] []) c.args.steps) _ _ c.from_residual.ensures.1
    (refused (search rules) _ _ (refusing c.bare.ensures c.in_err-bare.was) refl)

pub rounds-requires : goal.rounds-requires
rounds-requires c = clear c.bare.ensures c.in_ok-bare.was

pub returns : goal.returns
returns c = answered (search rules) (clear c.bare.ensures c.in_ok-bare.was) (ap within c.rounds.ensures)
