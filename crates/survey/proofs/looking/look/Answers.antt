use mathlib.Core.Path.{refl}
use mathlib.Core.Bool.{false}
use mathlib.Core.List.{[]}
use Rattle.meaning.specs.Refusal.{eliminating, with_list}
use Rattle.chain.specs.Given.{with}
use Rattle.look.proofs.Refuse.{next, well}
use Rattle.survey.specs.Looking.{asked, size_of}
use Rattle.survey.proofs.Looked.{settle}
use Rattle.survey.proofs.looking.look.Goals as goal

-- Number 11 is passed over: no rewards are lent.
pub returns : goal.returns
returns c =
    let a = c.args in
    settle (eliminating false (asked a.list) a.short) (with_list (size_of a.list) (with a.g.now a.order.now [] a.work.now)) 11 c.tables.result
    (λ u. well (next u (λ p a. a))) (c.tables.ensures [] refl)
