-- What the face of the check of a table answers, in the words of `meaning`.
use Rattle.std.specs.Prelude.{ℕ, ◌≡◌, List}
use Rattle.meaning.specs.Block.{Input}
use Rattle.meaning.specs.Judge.{Verdict, right, wrong, refusal, FileJudged}
use Rattle.egorstream.specs.declared.check.Checked.{Checked}

abbrev pub shown : Verdict → Checked
shown right = record { number = 0; place = 0; right = 1; state = 0 }
shown (wrong i) = record { number = 0; place = 0; right = 0; state = i }
shown (refusal number place) = record { number = number; place = place; right = 0; state = 0 }

pub record Checks (f : Input) (shares : List ℕ) (r : Checked) : Type 0 where
  pub verdict : Verdict
  pub outcome : FileJudged f shares verdict
  pub numbers : r ≡ shown verdict
