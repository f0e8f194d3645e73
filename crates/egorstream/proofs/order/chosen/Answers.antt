use mathlib.Core.Path.{ap}
use borrow.Author.Rules.{rules}
use Rattle.meaning.specs.Choice.{file_refused}
use Rattle.choice.specs.Told.{told}
use Rattle.opening.specs.Asked.{Asked}
use Rattle.egorstream.proofs.Ordering.{of_file}
use Rattle.egorstream.proofs.order.chosen.Goals as goal

pub returns : goal.returns
returns c =
    elim c.with.ensures [
      | Asked.refused x w e s ↦ file_refused _ _ w (ap told e) (search (rules, s))
      | Asked.asked p s a ↦ of_file p c.with.result (search (rules, a.called, a.shows)) s
    ]
