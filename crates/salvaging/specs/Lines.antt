-- The lines of what is left of a file, from the tables that they are written from, and how long they can be.
use Rattle.std.specs.Prelude.{ℕ, ◌≤◌, List, [], ◌++◌, length, get_or, ltb}
use Rattle.meaning.specs.Number.{choose, join_to}
use Rattle.meaning.specs.Outcome.{Bounds}
use Rattle.meaning.specs.Text.{bytes_of}
use Rattle.meaning.specs.Report.{bounds_text, line_text}
use Rattle.meaning.specs.Salvage.{pair_text, bounds_room, lost_room, short_room}

abbrev pub bounds_line : Bounds → List ℕ
bounds_line a = line_text (bytes_of "bounds ") (bounds_text a)

-- The line of number x at place i of a table, and nothing for 0.
abbrev pub number_text : List ℕ → ℕ → ℕ → List ℕ
number_text word i x = choose (ltb 0 x) (pair_text word i x) []

-- Those of the first k numbers.
abbrev pub numbers_text : List ℕ → List ℕ → ℕ → List ℕ
numbers_text word numbers k = join_to (λ i. ltb 0 (get_or numbers i 0)) (λ i. pair_text word i (get_or numbers i 0)) k

abbrev pub left_text : Bounds → List ℕ → List ℕ → List ℕ
left_text a lost short =
    bounds_line a ++ numbers_text (bytes_of "lost ") lost (length lost) ++ numbers_text (bytes_of "short ") short (length short)

-- The lines are no longer than those of a file.
pub record Fits (a : Bounds) (lost short : List ℕ) : Type 0 where
  pub bounds : length (bounds_line a) ≤ bounds_room
  pub blocks : (k : ℕ) → length (numbers_text (bytes_of "lost ") lost k) ≤ lost_room
  pub rows : (k : ℕ) → length (numbers_text (bytes_of "short ") short k) ≤ short_room
