use native.Mathlib.Omega.{arith}
use mathlib.Core.Path.{refl}
use borrow.Author.Rules.{rules}
use Rattle.meaning.specs.PlanTable.{PlanTable}
use Rattle.report.proofs.Refusals.{stands, printed, short, number_told}
use Rattle.text.proofs.Paging.{landed}
use Rattle.planning.specs.Told.{told_weights}
use Rattle.planning.specs.Line.{chances_of}
use Rattle.planning.proofs.Tabling.{chances}
use Rattle.planning.proofs.tabled.table.Goals as goal

pub returns-then-buffer-lt-TABLE_ROOM : goal.returns-then-buffer-lt-TABLE_ROOM
returns-then-buffer-lt-TABLE_ROOM c = short c.from.result (omega arith) c.from.ensures

pub returns-then-wrong-ne0 : goal.returns-then-wrong-ne0
returns-then-wrong-ne0 c =
    let answer = c.answer in
    let weighed = c.weighed-wrong in
    number_told weighed.result.number weighed.result.place answer.result (omega arith) (search rules) (search rules) c.refused.ensures
    (λ t e. PlanTable.refused _ _ (weighed.ensures.wrong (search rules)) e) answer.ensures

pub rows-requires : goal.rows-requires
rows-requires c = c.weighed-wrong.ensures.serve (search rules)

pub returns : goal.returns
returns c =
    let x = told_weights c.args.w in
    let told = PlanTable.told (c.weighed-wrong.ensures.serve (search rules)) (chances_of x) (chances x) refl in
    printed (search rules) (stands told (landed (search rules) (c.rows.ensures.fitted (search rules)).written))
