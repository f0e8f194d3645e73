use mathlib.Core.Path.{refl}
use borrow.Author.Rules.{rules}
use Rattle.meaning.specs.Judge.{FileJudged}
use Rattle.opening.specs.Asked.{Asked}
use Rattle.figures.specs.Judged.{Judges}
use Rattle.figures.proofs.check.Goals as goal

pub returns : goal.returns
returns c =
    elim c.with.ensures [
      | Asked.refused x w e s ↦ rw e (FileJudged.file_refused _ _ w refl)
      | Asked.asked p s a ↦ let j : Judges p c.args.shares.now c.with.result = search (rules, a.called, a.shows) in j.told _ s
    ]
