-- How long the texts of the report can be.
use Prim.Native.Nat.{ℕ, ◌^◌, ◌≤◌, ◌<◌}
use native.Mathlib.Omega.{arith}
use mathlib.Core.Bool.{Bool, true, false}
use mathlib.Core.List.{List, ◌++◌}
use lib.ListN.{length, length-append}
use lib.Dec.{eqb}
use Rattle.meaning.specs.Number.{choose}
use Rattle.meaning.specs.Chain.{most_states, most_edges}
use Rattle.meaning.specs.Outcome.{Answer, Bounds}
use Rattle.meaning.specs.Text.{bytes_of}
use Rattle.meaning.specs.Report.{fraction_text, refused_text, answer_text, lines_text, answer_line, face_text, report_room, face_room, answer_room}
use Rattle.theory.specs.Numbers.Decimal.{digits}
use Rattle.theory.specs.Outcomes.Small.{Small, BothSmall}
use Rattle.theory.specs.Files.Lengths.{Brief, refused_short, refusal_line, fraction_short, bounds_short}
use Rattle.octets.specs.Written.{Room}

either : (b : Bool) (x y : List ℕ) (n : ℕ) → length x ≤ n → length y ≤ n → length (choose b x y) ≤ n
either true x y n h k = h
either false x y n h k = k

answer_short : (a : Answer) → Brief a.number a.place → Small a.numerator a.denominator → length (answer_text a) ≤ 21
answer_short a n s =
    either (eqb a.number 0) _ _ 21
    (either (eqb a.denominator 0) _ _ 21 (omega arith) (fraction_short a.numerator a.denominator s))
    (omega (arith, refused_short a.number a.place n))

-- The seven lines of a report.
pub lines_short : (states edges goals live : ℕ) (chance reward : Answer) (bounds : Bounds)
    → states ≤ most_states → edges ≤ most_edges → goals ≤ most_states → live ≤ most_states
    → Brief chance.number chance.place → Small chance.numerator chance.denominator
    → Brief reward.number reward.place → Small reward.numerator reward.denominator
    → BothSmall bounds
    → length (lines_text states edges goals live chance reward bounds) ≤ report_room
lines_short states edges goals live chance reward bounds hs he hg hl nc sc nr sr sb =
    simp length-append
    (omega (
      arith,
      digits 1 states (omega arith),
      digits 3 edges (omega arith),
      digits 1 goals (omega arith),
      digits 1 live (omega arith),
      answer_short chance nc sc,
      answer_short reward nr sr,
      simp length-append at (bounds_short bounds sb),
    ))

-- The single line of a refusal.
pub refusal_short : (number place : ℕ) → Brief number place → length (refused_text number place ++ bytes_of "\n") ≤ report_room
refusal_short number place n = omega (arith, refusal_line number place n)

-- An answer whose numbers have room in their types.
pub record Wide (a : Answer) : Type 0 where
  pub number : a.number < 2 ^ 32
  pub place : a.place < 2 ^ 64
  pub numerator : a.numerator < 2 ^ 64
  pub denominator : a.denominator < 2 ^ 64

pub refused_wide : (a : Answer) → Wide a → length (refused_text a.number a.place) ≤ 42
refused_wide a w = simp length-append (omega (arith, digits 9 a.number (omega arith), digits 19 a.place (omega arith)))

pub answer_wide : (a : Answer) → Wide a → length (answer_text a) ≤ 42
answer_wide a w =
    let fraction : length (fraction_text a.numerator a.denominator) ≤ 42 =
    simp length-append (omega (arith, digits 19 a.numerator (omega arith), digits 19 a.denominator (omega arith))) in
    either (eqb a.number 0) _ _ 42 (either (eqb a.denominator 0) _ _ 42 (omega arith) fraction) (refused_wide a w)

-- The line of an answer alone.
pub answer_room_lem : (buffer : List ℕ) (a : Answer) → answer_room ≤ length buffer → Wide a → Room buffer 0 (answer_line a)
answer_room_lem buffer a room w = simp length-append (omega (arith, answer_wide a w))

-- The line of a face, whatever 64-bit numbers stand in it.
pub face_room_lem : (buffer : List ℕ) (face : ℕ) (a : Answer) → face_room ≤ length buffer → face < 2 ^ 64 → Wide a → Room buffer 0 (face_text face a)
face_room_lem buffer face a room hf w = simp length-append (omega (arith, answer_wide a w, digits 19 face (omega arith)))
