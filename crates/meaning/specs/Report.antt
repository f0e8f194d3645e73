-- The report: what the program prints for an input, byte for byte.
use Rattle.std.specs.Prelude.{ℕ, ◌≤◌, ◌<◌, ◌≡◌, List, [], ◌∷◌, ◌++◌, length, eqb}
use Rattle.meaning.specs.Number.{choose, filled}
use Rattle.meaning.specs.Chain.{Goal, Live}
use Rattle.meaning.specs.Refusal.{paid, listing, Refused, WellFormed}
use Rattle.meaning.specs.Outcome.{
  Answer,
  ChanceOutcome,
  RewardOutcome,
  Bounds,
  BoundsOutcome,
}
use Rattle.meaning.specs.Steps.{StepRecord, StepsOutcome}
use Rattle.meaning.specs.Survey.{Count}
use Rattle.meaning.specs.Block.{Input, head_states, head_edges}
use Rattle.meaning.specs.File.{FileRefused, Accepted, chain_in, plain_in, paid_in}
use Rattle.meaning.specs.FileSteps.{listed_in}
use Rattle.meaning.specs.Buffer.{Writing, no_writing, writing}
use Rattle.meaning.specs.Text.{bytes_of, decimal}

-- A fraction, as 4375/4376.
abbrev pub fraction_text : ℕ → ℕ → List ℕ
fraction_text p q = decimal p ++ bytes_of "/" ++ decimal q

-- A refusal, as `refused 9 at 3`: number, place.
abbrev pub refused_text : ℕ → ℕ → List ℕ
refused_text number place = bytes_of "refused " ++ decimal number ++ bytes_of " at " ++ decimal place

-- What stands in the line of an exact figure: 12 replaces the fraction.
abbrev pub answer_text : Answer → List ℕ
answer_text a =
    choose (eqb a.number 0)
    (choose (eqb a.denominator 0) (bytes_of "infinite") (fraction_text a.numerator a.denominator))
    (refused_text a.number a.place)

-- What stands in the line of the bounds: two fractions, since nothing stops the bounds of a well-formed chain.
abbrev pub bounds_text : Bounds → List ℕ
bounds_text a =
    fraction_text a.lower_numerator a.lower_denominator
    ++ bytes_of " "
    ++ fraction_text a.upper_numerator a.upper_denominator

-- A line: a word, a text, a newline.
abbrev pub line_text : List ℕ → List ℕ → List ℕ
line_text word text = word ++ text ++ bytes_of "\n"

-- The seven lines of a report.
abbrev pub lines_text : ℕ → ℕ → ℕ → ℕ → Answer → Answer → Bounds → List ℕ
lines_text states edges goals live chance reward bounds =
    line_text (bytes_of "states ") (decimal states)
    ++ line_text (bytes_of "edges ") (decimal edges)
    ++ line_text (bytes_of "goals ") (decimal goals)
    ++ line_text (bytes_of "live ") (decimal live)
    ++ line_text (bytes_of "chance ") (answer_text chance)
    ++ line_text (bytes_of "reward ") (answer_text reward)
    ++ line_text (bytes_of "bounds ") (bounds_text bounds)

-- t is the report of the input f: the single line of a refusal by 20 to 24 or 1 to 11, or seven lines.
pub data Report (f : Input) (t : List ℕ) : Type 0 where
  file_refused : (number place : ℕ) → FileRefused f number place → t ≡ refused_text number place ++ bytes_of "\n" → Report f t
  chain_refused : (number place : ℕ) → Accepted f → Refused paid (paid_in f) number place
      → t ≡ refused_text number place ++ bytes_of "\n" → Report f t
  reported : Accepted f → WellFormed paid (paid_in f) → (goals live : ℕ) → Count (Goal (chain_in f)) (head_states f) goals
      → Count (Live (chain_in f)) (head_states f) live → (chance reward : Answer) (bounds : Bounds) (w₁ w₂ w₃ : List ℕ)
      → ChanceOutcome (plain_in f) chance w₁ → RewardOutcome (paid_in f) reward w₂ → BoundsOutcome (plain_in f) bounds w₃
      → t ≡ lines_text (head_states f) (head_edges f) goals live chance reward bounds
      → Report f t

-- The line of a face of the dice, as `face 1 1/6`, or `face 1 refused 12 at 1` where the chance is refused.
abbrev pub face_text : ℕ → Answer → List ℕ
face_text face chance = line_text (bytes_of "face " ++ decimal face ++ bytes_of " ") (answer_text chance)

-- A number after its name.
abbrev pub named_text : List ℕ → ℕ → List ℕ
named_text name x = name ++ decimal x

-- The line of a record of the step list, as `state 3 rows 2 columns 4 divisor 6`.
abbrev pub record_text : ℕ → ℕ → ℕ → ℕ → List ℕ
record_text state rows columns divisor =
    named_text (bytes_of "state ") state
    ++ named_text (bytes_of " rows ") rows
    ++ named_text (bytes_of " columns ") columns
    ++ line_text (bytes_of " divisor ") (decimal divisor)

-- A line for each record.
unfoldable pub records_text : List StepRecord → List ℕ
records_text [] = []
records_text (r ∷ rs) = record_text r.state r.rows r.columns r.divisor ++ records_text rs

-- t is what the desk's program prints for the input f: the single line of a refusal by 20 to 24 or 1 to 10, or the lines of the step list and
-- then the report's line of the chance, in which 12 replaces the fraction.
pub data StepsReport (f : Input) (t : List ℕ) : Type 0 where
  file_refused : (number place : ℕ) → FileRefused f number place → t ≡ refused_text number place ++ bytes_of "\n" → StepsReport f t
  chain_refused : (number place : ℕ) → Accepted f → Refused listing (listed_in f) number place
      → t ≡ refused_text number place ++ bytes_of "\n" → StepsReport f t
  listed : Accepted f → WellFormed listing (listed_in f) → (chance : Answer) (count : ℕ) (work : List ℕ) (records : List StepRecord)
      → StepsOutcome (listed_in f) [] chance count work records
      → t ≡ records_text records ++ line_text (bytes_of "chance ") (answer_text chance)
      → StepsReport f t

-- The line of an answer alone, as `1/4`, or `refused 31 at 2`.
abbrev pub answer_line : Answer → List ℕ
answer_line a = answer_text a ++ bytes_of "\n"

-- A buffer with less than the room for any such text is refused by 2, and stays. Else the text stands at its front, and bytes past the text
-- stay.
pub data TextOutcome (room : ℕ) (Text : List ℕ → Type 0) (before : List ℕ) (a : Writing) (after : List ℕ) : Type 0 where
  short : length before < room → a ≡ no_writing 2 0 → after ≡ before → TextOutcome room Text before a after
  printed : room ≤ length before → (t : List ℕ) → Text t → a ≡ writing (length t) → after ≡ filled t before
      → TextOutcome room Text before a after

-- Room for any report, each line at its longest: counts of 2, 4, 2 and 2 digits, and fractions of 21 bytes.
abbrev pub report_room : ℕ
report_room = 147

abbrev pub ReportOutcome : Input → List ℕ → Writing → List ℕ → Type 0
ReportOutcome f = TextOutcome report_room (Report f)

-- Room for any line of a face: numbers of 64 bits have 20 digits, and a refusal's number has 10.
abbrev pub face_room : ℕ
face_room = 69

abbrev pub FaceOutcome : ℕ → Answer → List ℕ → Writing → List ℕ → Type 0
FaceOutcome face chance = TextOutcome face_room (λ t. t ≡ face_text face chance)

-- Room for any step list: 64 lines of 111 bytes and the chance's line of 50, since numbers of 64 bits have 20 digits.
abbrev pub steps_room : ℕ
steps_room = 7154

abbrev pub StepsReportOutcome : Input → List ℕ → Writing → List ℕ → Type 0
StepsReportOutcome f = TextOutcome steps_room (StepsReport f)

-- Room for any line of an answer, likewise.
abbrev pub answer_room : ℕ
answer_room = 43

abbrev pub AnswerOutcome : Answer → List ℕ → Writing → List ℕ → Type 0
AnswerOutcome a = TextOutcome answer_room (λ t. t ≡ answer_line a)
