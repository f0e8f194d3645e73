-- The fewest copies that keep a limit.
use Rattle.std.specs.Prelude.{ℕ, ◌+◌, ◌-◌, ◌≤◌, ◌<◌, ◌≡◌, List, [], ◌++◌, leb, ltb}
use Rattle.meaning.specs.Number.{choose}
use Rattle.meaning.specs.Outcome.{Answer}
use Rattle.meaning.specs.Buffer.{Writing}
use Rattle.meaning.specs.Text.{bytes_of}
use Rattle.meaning.specs.Report.{named_text, refused_text, TextOutcome}
use Rattle.meaning.specs.Near.{Near, NearOutcome}
use Rattle.meaning.specs.Copies.{Plan, most_copies, Sensible, copies_lent, CopiesOutcome}
use Rattle.meaning.specs.Limit.{Limit, IsLimit}
use Rattle.meaning.specs.FileLimit.{Verdict, kept, broken, verdict_by}
use Rattle.meaning.specs.PlanTable.{Weights, with_copies, WeightsRefused, copies_line}

-- The verdict on a plan, by the planner's answer and the near chance.
pub record PlanVerdict (j : Plan) (m : Limit) (chance : Near) (v : Verdict) : Type 0 where
  pub exact : Answer
  pub answer : CopiesOutcome j exact
  pub work : List ℕ
  pub near : NearOutcome (copies_lent j) chance work
  pub is : v ≡ verdict_by m exact chance

-- a and v say of each number of copies the near chance and the verdict.
abbrev pub Verdicts : Weights → Limit → (ℕ → Near) → (ℕ → Verdict) → Type 0
Verdicts x m a v = (c : ℕ) → 0 < c → c ≤ most_copies → PlanVerdict (with_copies x c) m (a c) (v c)

-- fewest is the least number of copies that is kept, 33 where none is; first is one more than the largest number below it that is broken, 1 where
-- none is. From first on and below fewest it cannot be said.
pub record Fewest (v : ℕ → Verdict) (fewest first : ℕ) : Type 0 where
  pub some : 0 < fewest
  pub most : fewest ≤ most_copies + 1
  pub keeps : fewest ≤ most_copies → v fewest ≡ kept
  pub least : (c : ℕ) → 0 < c → c < fewest → v c ≡ kept → ⊥
  pub first_some : 0 < first
  pub first_most : first ≤ fewest
  pub breaks : 1 < first → v (first - 1) ≡ broken
  pub unsaid : (c : ℕ) → first ≤ c → c < fewest → v c ≡ broken → ⊥

-- The line of the fewest copies, or that of `none` with the figures of all; and a line where there is what cannot be said, as `open 6`.
abbrev pub fewest_text : (ℕ → Near) → ℕ → ℕ → List ℕ
fewest_text a fewest first =
    choose (leb fewest most_copies) (copies_line (bytes_of "copies ") fewest (a fewest)) (copies_line (bytes_of "none ") most_copies (a most_copies))
    ++ choose (ltb first fewest) (named_text (bytes_of "open ") first ++ bytes_of "\n") []

-- t is what is said of the weights x and the limit m: a refusal by 31, then by 35; or a line or two.
pub data FewestReport (x : Weights) (m : Limit) (t : List ℕ) : Type 0 where
  refused : (number place : ℕ) → WeightsRefused x number place → t ≡ refused_text number place ++ bytes_of "\n" → FewestReport x m t
  no_limit_lem : Sensible (with_copies x 1) → (IsLimit m → ⊥) → t ≡ refused_text 35 0 ++ bytes_of "\n" → FewestReport x m t
  told : Sensible (with_copies x 1) → IsLimit m → (a : ℕ → Near) (v : ℕ → Verdict) → Verdicts x m a v → (fewest first : ℕ) → Fewest v fewest first
      → t ≡ fewest_text a fewest first
      → FewestReport x m t

-- Room for any two such lines: a word of five bytes, a number of 20 digits and a newline are the second.
abbrev pub fewest_room : ℕ
fewest_room = 152

abbrev pub FewestOutcome : Weights → Limit → List ℕ → Writing → List ℕ → Type 0
FewestOutcome x m = TextOutcome fewest_room (FewestReport x m)
