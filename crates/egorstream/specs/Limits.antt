-- What the face of limits for C answers.
use Rattle.std.specs.Prelude.{ℕ, ◌≡◌}
use Rattle.meaning.specs.Block.{Input}
use Rattle.meaning.specs.Limit.{Limit}
use Rattle.meaning.specs.FileLimit.{Verdict, kept, broken, undecided, refused, judged, FileLimit}
use Rattle.meaning.specs.FileLimit as meant
use Rattle.egorstream.specs.declared.limits.Limited.{Limited}

abbrev pub verdict_number : Verdict → ℕ
verdict_number kept = 1
verdict_number broken = 2
verdict_number undecided = 3

abbrev pub limited_as : meant.Limited → Limited
limited_as (refused number place) = record { number = number; place = place; verdict = 0 }
limited_as (judged v chance) = record { number = 0; place = 0; verdict = verdict_number v }

-- What it promises of a file.
pub record Limits (f : Input) (m : Limit) (r : Limited) : Type 0 where
  pub said : meant.Limited
  pub outcome : FileLimit f m said
  pub is : r ≡ limited_as said
