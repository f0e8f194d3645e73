use mathlib.Core.Path.{refl, ap, ap₂}
use borrow.Author.Rules.{rules}
use Rattle.meaning.specs.Buffer.{no_writing}
use Rattle.meaning.specs.Translate.{TextedOutcome}
use Rattle.chain.specs.Refusal.{number_of}
use Rattle.opening.specs.Asked.{Asked}
use Rattle.report.specs.Stands.{told}
use Rattle.showing.proofs.Showing.{order_few, show_text}
use Rattle.showing.proofs.text.Goals as goal

pub returns-then-buffer-lt-ROOM : goal.returns-then-buffer-lt-ROOM
returns-then-buffer-lt-ROOM c =
    TextedOutcome.short c.if-buffer-lt-ROOM.true (ap₂ no_writing (ap number_of c.from.ensures.0) c.from.ensures.1) refl

pub returns : goal.returns
returns c =
    let room = c.if-buffer-lt-ROOM.false in
    elim c.with.ensures [
      | Asked.refused x w e s ↦ TextedOutcome.file_refused room _ _ w (ap told e) (search (rules, s))
      | Asked.asked p s a ↦ show_text s c.with.result room (search (rules, a.called, a.shows))
    ]

pub with-requires : goal.with-requires
with-requires c = λ p s y e _ _ _ _ _ _ _ _. rw e (c.if-buffer-lt-ROOM.false, s.few_states, order_few s, s.few_edges)
