-- The table of plans, line by line.
use Prim.Native.Nat.{ℕ, ◌+◌, ◌*◌}
use mathlib.Core.Path.{refl}
use native.Mathlib.Omega.{arith}
use native.Mathlib.Numerals.{add-one}
use Rattle.meaning.specs.Text.{bytes_of}
use Rattle.meaning.specs.Copies.{copies_lent}
use Rattle.meaning.specs.PlanTable.{Weights, with_copies, Chances, copies_line, table_text, copies_room}
use Rattle.theory.specs.Outcomes.NearOne.{near_outcome}
use Rattle.text.specs.declared.page.Page.{Page}
use Rattle.lines.specs.Widths.{Fits}
use Rattle.lines.proofs.Fitting.{and, worded}
use Rattle.planning.specs.Line.{chances_of}
use Rattle.planning.proofs.Lining.{nothing}

pub chances : (x : Weights) → Chances x (chances_of x)
chances x c some few = ((near_outcome (copies_lent (with_copies x c))).work, (near_outcome (copies_lent (with_copies x c))).outcome)

-- The lines of 1 to c copies, and one more.
module _ (x : Weights) {a : Page} where
  pub rows_none : Fits a (table_text (chances_of x) 0) 0 a
  unfolding table_text
  rows_none = nothing

  pub rows_more : (c : ℕ) {b d : Page} → Fits a (table_text (chances_of x) c) (copies_room * c) b
      → Fits b (copies_line (bytes_of "copies ") (c + 1) (chances_of x (c + 1))) copies_room d
      → Fits a (table_text (chances_of x) (c + 1)) (copies_room * (c + 1)) d
  unfolding table_text
  rows_more c v w = worded (rw add-one refl) (omega arith) (and v w)
