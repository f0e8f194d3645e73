-- What the test of a block tells.
use Rattle.std.specs.Prelude.{ℕ, Result, Ok, Err}
use Rattle.meaning.specs.Block.{Input}
use Rattle.meaning.specs.File.{BlockRefused, BlockRight}
use Rattle.chain.specs.Refusal.{number_of}
use Rattle.chain.specs.declared.refusal.Fault.{Fault}

-- A block is right, or refused with a number.
abbrev pub tested : Input → ℕ → Result Unit Fault → Type 0
tested f b (Ok u) = BlockRight f b
tested f b (Err fault) = BlockRefused f b (number_of fault)
