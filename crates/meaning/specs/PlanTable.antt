-- Near chances of a plan, and the table of all numbers of copies with the same weights.
use Rattle.std.specs.Prelude.{ℕ, zero, suc, ◌≤◌, ◌<◌, ◌≡◌, List, [], ◌++◌}
use Rattle.meaning.specs.Buffer.{Writing}
use Rattle.meaning.specs.Text.{bytes_of}
use Rattle.meaning.specs.Report.{named_text, refused_text, TextOutcome}
use Rattle.meaning.specs.Near.{Near, near, NearOutcome}
use Rattle.meaning.specs.Miss.{MissOutcome}
use Rattle.meaning.specs.NearText.{near_line}
use Rattle.meaning.specs.Copies.{Plan, plan_of, most_copies, Sensible, copies_lent, PlanRefused}

-- The chance that no copy is left before the finish, and what is wanting of it to 1. A plan is refused as the planner refuses it.
pub data PlanNear (j : Plan) (chance miss : Near) : Type 0 where
  refused : (number place : ℕ) → PlanRefused j number place → chance ≡ near number place 0 0 0 → miss ≡ near number place 0 0 0
      → PlanNear j chance miss
  asked : Sensible j → (w v : List ℕ) → NearOutcome (copies_lent j) chance w → MissOutcome (copies_lent j) miss v → PlanNear j chance miss

-- The weights of a loss, a rebuild and the finish; and a plan with them and so many copies.
pub record Weights : Type 0 where
  pub loss : ℕ
  pub rebuild : ℕ
  pub finish : ℕ

abbrev pub with_copies : Weights → ℕ → Plan
with_copies x copies = plan_of copies x.loss x.rebuild x.finish

-- What is refused of the weights: 31, since one copy is never too few or too many.
abbrev pub WeightsRefused : Weights → ℕ → ℕ → Type 0
WeightsRefused x = PlanRefused (with_copies x 1)

-- a says of each number of copies the plan's near chance.
abbrev pub Chances : Weights → (ℕ → Near) → Type 0
Chances x a = (c : ℕ) → 0 < c → c ≤ most_copies → (w : List ℕ) × NearOutcome (copies_lent (with_copies x c)) (a c) w

-- A line, as `copies 6 2.48121e-10 2.48122e-10`, and those of 1, 2, .., n copies.
abbrev pub copies_line : List ℕ → ℕ → Near → List ℕ
copies_line word copies = near_line (named_text word copies ++ bytes_of " ")

unfoldable pub table_text : (ℕ → Near) → ℕ → List ℕ
table_text a zero = []
table_text a (suc n) = table_text a n ++ copies_line (bytes_of "copies ") (suc n) (a (suc n))

-- t is the table of the weights x: a line for each number of copies, or the single line of a refusal.
pub data PlanTable (x : Weights) (t : List ℕ) : Type 0 where
  refused : (number place : ℕ) → WeightsRefused x number place → t ≡ refused_text number place ++ bytes_of "\n" → PlanTable x t
  told : Sensible (with_copies x 1) → (a : ℕ → Near) → Chances x a → t ≡ table_text a most_copies → PlanTable x t

-- Room for any line: a word of seven bytes, a number of 20 digits, two figures of 48, two spaces and a newline; and for any table.
abbrev pub copies_room : ℕ
copies_room = 126

abbrev pub table_room : ℕ
table_room = 4032

abbrev pub PlanTableOutcome : Weights → List ℕ → Writing → List ℕ → Type 0
PlanTableOutcome x = TextOutcome table_room (PlanTable x)
