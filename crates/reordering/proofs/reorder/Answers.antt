use Rattle.std.proofs.Common.{rules, refl, arith}
use Rattle.opening.specs.Asked.{Asked}
use Rattle.meaning.specs.Write.{Bytes}
use Rattle.meaning.specs.Reorder.{ReorderOutcome}
use Rattle.reordering.proofs.Rewriting.{of_parts}
use Rattle.reordering.proofs.reorder.Goals as goal

pub returns : goal.returns
returns c =
    let bytes : Bytes c.args.kept.now = λ j. omega (arith, c.type_inv.kept j) in
    elim c.with.ensures [
      | Asked.refused x w e s ↦ rw e (ReorderOutcome.file_refused c.if-buffer-lt-ROOM.false _ _ w refl (search (rules, s)))
      | Asked.asked p s a ↦ of_parts p c.with.result (search (rules, a.called, a.shows)) bytes s
    ]
