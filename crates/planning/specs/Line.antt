-- The lines of the planners, and how long they are at their longest.
use Rattle.std.specs.Prelude.{ℕ, ◌+◌, List, [], ◌++◌, length, leb, ltb}
use Rattle.meaning.specs.Number.{choose}
use Rattle.meaning.specs.Text.{bytes_of}
use Rattle.meaning.specs.Report.{named_text}
use Rattle.meaning.specs.Copies.{Plan, most_copies, copies_lent}
use Rattle.meaning.specs.Near.{Near}
use Rattle.meaning.specs.PlanTable.{Weights, with_copies, copies_line}
use Rattle.theory.specs.Outcomes.NearOne.{near_outcome}

-- The near chance of a plan, and of each number of copies.
abbrev pub chance_of : Plan → Near
chance_of j = (near_outcome (copies_lent j)).answer

abbrev pub chances_of : Weights → ℕ → Near
chances_of x c = chance_of (with_copies x c)

-- A number of 20 digits, two figures of 48, two spaces and a newline.
abbrev pub line_width : List ℕ → ℕ
line_width word = length word + 119

-- The two lines of the fewest copies, with these chances.
abbrev pub fewest_line : (ℕ → Near) → ℕ → List ℕ
fewest_line a fewest =
    choose (leb fewest most_copies) (copies_line (bytes_of "copies ") fewest (a fewest)) (copies_line (bytes_of "none ") most_copies (a most_copies))

abbrev pub open_line : ℕ → ℕ → List ℕ
open_line fewest first = choose (ltb first fewest) (named_text (bytes_of "open ") first ++ bytes_of "\n") []
