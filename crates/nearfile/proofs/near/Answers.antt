use Rattle.std.proofs.Common.{refl, rules}
use Rattle.meaning.specs.FileNear.{FileNear}
use Rattle.opening.specs.Asked.{Asked}
use Rattle.nearfile.specs.From.{NearFrom}
use Rattle.nearfile.proofs.near.Goals as goal

pub returns : goal.returns
returns c =
    elim c.with.ensures [
      | Asked.refused x w e s ↦ rw e (FileNear.file_refused _ _ w refl refl)
      | Asked.asked p s a ↦ let n : NearFrom p c.args.from c.with.result = search (rules, a.called, a.shows) in n.told _ s
    ]
