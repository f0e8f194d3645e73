use mathlib.Core.Path.{refl}
use mathlib.Core.Bool.{false}
use mathlib.Core.List.{[]}
use borrow.Author.Rules.{rules}
use Rattle.meaning.specs.Judge.{JudgeOutcome, table_length, refused}
use Rattle.chain.specs.Given.{with}
use Rattle.look.proofs.Refuse.{handed}
use Rattle.survey.proofs.Surveyed.{refusing, found}
use Rattle.equations.specs.Judge.{told}
use Rattle.equations.proofs.check.Goals as goal

pub returns-then-numerators-g : goal.returns-then-numerators-g
returns-then-numerators-g c =
    rw (c.from.ensures.0, c.from.ensures.1) (table_length (search rules) refl)

pub returns-in_err-found : goal.returns-in_err-found
returns-in_err-found c =
    let a = c.args in
    let l = with a.g.now [] [] [] in
    handed (λ r. JudgeOutcome l a.denominator a.numerators.now (told r)) _ _ c.from_residual.ensures.1
    (refused (search rules) _ _ (refusing false l c.of.ensures c.in_err-found.was) refl)

pub table-requires : goal.table-requires
table-requires c =
    let f = found false (with c.args.g.now [] [] []) c.of.ensures c.in_ok-found.was in
    record { sent = record { size = search rules; formed = f.0 }; leads = f.1.right.good }
