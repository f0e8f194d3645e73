-- Which refusals end the report, and that their numbers and places are short.
use Prim.Native.Nat.{ℕ}
use native.Mathlib.Omega.{arith}
use mathlib.Core.Bool.{Bool}
use Rattle.meaning.specs.Refusal.{Lent, Entry, Refused, WellFormed}
use Rattle.meaning.specs.Stop.{Stopped}
use Rattle.meaning.specs.Block.{Input}
use Rattle.meaning.specs.File.{FileRefused}
use Rattle.theory.specs.Outcomes.DemandTwo.{stopped_twelve}
use Rattle.theory.specs.Outcomes.Places.{refused_places}
use Rattle.theory.specs.Files.FileOne.{file_numbers}
use Rattle.theory.specs.Files.StepsOne.{stopped_place}
use Rattle.theory.specs.Files.Lengths.{Brief, chain_brief, block_brief}
use Rattle.report.specs.Lines.{Ends, chain, file}

-- The numbers 1 to 11 end the report, and are short with their places.
pub refused_brief : {x : Entry} {l : Lent} (number place : ℕ) → Refused x l number place → Ends number × Brief number place
refused_brief number place r = let (some, most, _) = refused_places number place r in (chain some most, chain_brief r)

-- The number 12 is short with its place.
pub stopped_brief : {x : Entry} {pay : ℕ → ℕ} {b : Bool} {l : Lent} {number place : ℕ} → WellFormed x l → Stopped pay b l number place → Brief number place
stopped_brief formed s = record { two = omega (arith, stopped_twelve s); four = omega (arith, stopped_place formed s) }

-- The numbers 20 to 24 end the report, and are short with their places.
pub file_brief : {f : Input} {number place : ℕ} → FileRefused f number place → Ends number × Brief number place
file_brief r = let n = file_numbers r in (file n.0 n.1, block_brief r)
