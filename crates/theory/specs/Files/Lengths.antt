-- How long the pieces of a printed text can be.
use Rattle.std.specs.Prelude.{ℕ, ◌≤◌, ◌++◌, length}
use Rattle.std.proofs.Common.{arith, length-append}
use Rattle.meaning.specs.Refusal.{Lent, Entry, Refused}
use Rattle.meaning.specs.Outcome.{Bounds}
use Rattle.meaning.specs.Block.{Input}
use Rattle.meaning.specs.File.{FileRefused}
use Rattle.meaning.specs.Report.{fraction_text, refused_text, bounds_text, line_text}
use Rattle.meaning.specs.Text.{bytes_of}
use Rattle.theory.specs.Numbers.Decimal.{digits}
use Rattle.theory.specs.Outcomes.Small.{Small, BothSmall}
use Rattle.theory.specs.Outcomes.Places.{refused_places}
use Rattle.theory.specs.Files.FileOne.{file_numbers}
use Rattle.theory.specs.Files.StepsOne.{file_place}

-- A refusal's number has two digits and its place four.
pub record Brief (number place : ℕ) : Type 0 where
  pub two : number ≤ 99
  pub four : place ≤ 9999

-- The numbers 1 to 11, and 20 to 24.
pub chain_brief : {x : Entry} {l : Lent} {number place : ℕ} → Refused x l number place → Brief number place
chain_brief {number = number} {place} r =
    let (some, most, near) = refused_places number place r in record { two = omega arith; four = omega arith }

pub block_brief : {f : Input} {number place : ℕ} → FileRefused f number place → Brief number place
block_brief r = record { two = omega (arith, (file_numbers r).1); four = omega (arith, file_place r) }

pub refused_short : (number place : ℕ) → Brief number place → length (refused_text number place) ≤ 18
refused_short number place n = simp length-append (omega (arith, digits 1 number (omega arith), digits 3 place (omega arith)))

pub fraction_short : (p q : ℕ) → Small p q → length (fraction_text p q) ≤ 21
fraction_short p q s = simp length-append (omega (arith, digits 9 p (omega arith), digits 9 q (omega arith)))

pub bounds_short : (a : Bounds) → BothSmall a → length (bounds_text a) ≤ 43
bounds_short a s =
    simp length-append
    (omega (
      arith,
      simp length-append at (fraction_short a.lower_numerator a.lower_denominator s.0),
      simp length-append at (fraction_short a.upper_numerator a.upper_denominator s.1),
    ))

-- The line of a refusal, and that of the bounds.
pub refusal_line : (number place : ℕ) → Brief number place → length (refused_text number place ++ bytes_of "\n") ≤ 19
refusal_line number place n = simp length-append (omega (arith, simp length-append at (refused_short number place n)))

pub bounds_line_lem : (a : Bounds) → BothSmall a → length (line_text (bytes_of "bounds ") (bounds_text a)) ≤ 51
bounds_line_lem a s = simp length-append (omega (arith, simp length-append at (bounds_short a s)))
