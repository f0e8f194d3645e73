-- The verdict on a plan as the C entry numbers it, and what the scan over the copies finds.
use Rattle.std.specs.Prelude.{ℕ, ◌≡◌}
use Rattle.meaning.specs.Near.{Near}
use Rattle.meaning.specs.Copies.{Plan}
use Rattle.meaning.specs.Limit.{Limit}
use Rattle.meaning.specs.FileLimit.{Verdict}
use Rattle.meaning.specs.PlanTable.{Weights}
use Rattle.meaning.specs.Fewest.{PlanVerdict, Verdicts, Fewest}
use Rattle.egorstream.specs.Limits.{verdict_number}

pub record PlanJudged (j : Plan) (m : Limit) (said : ℕ) : Type 0 where
  pub chance : Near
  pub verdict : Verdict
  pub outcome : PlanVerdict j m chance verdict
  pub is : said ≡ verdict_number verdict

-- Whatever says the verdicts: they are one.
pub record Scanned (x : Weights) (m : Limit) (fewest first : ℕ) : Type 0 where
  pub said : (a : ℕ → Near) (v : ℕ → Verdict) → Verdicts x m a v → Fewest v fewest first

-- Room for the second line.
abbrev pub open_room : ℕ
open_room = 26
