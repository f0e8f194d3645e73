-- What the verdicts on a file and on its front tell.
use Rattle.std.specs.Prelude.{ℕ, ◌≤◌, ◌<◌, Result, Ok, Err}
use Rattle.meaning.specs.Block.{Input, state_blocks}
use Rattle.meaning.specs.File.{LengthFault, BlockRefused, BlockRight, TotalFault, FileRefused, Accepted}
use Rattle.meaning.specs.Salvage.{FrontRefused}
use Rattle.chain.specs.Refusal.{number_of}
use Rattle.chain.specs.declared.refusal.Refusal.{Refusal}

-- That all is right, or by what it is refused.
abbrev pub Verdict : Type 0
Verdict = Result Unit Refusal

-- The length, the head and the block total are right, or one of them is refused.
pub record Begun (f : Input) : Type 0 where
  pub whole : LengthFault f → ⊥
  pub head : BlockRight f 0
  pub total : TotalFault f → ⊥

abbrev pub begun : Input → Verdict → Type 0
begun f (Ok u) = Begun f
begun f (Err r) = FrontRefused f (number_of r.fault) r.place

-- Of the further blocks before `end` one is the first that is refused.
pub record FirstWrong (f : Input) (end number b : ℕ) : Type 0 where
  pub after : 0 < b
  pub below : b < end
  pub before : (a : ℕ) → 0 < a → a < b → BlockRight f a
  pub refused : BlockRefused f b number

abbrev pub further : Input → ℕ → Verdict → Type 0
further f end (Ok u) = (b : ℕ) → 0 < b → b < end → BlockRight f b
further f end (Err r) = FirstWrong f end (number_of r.fault) r.place

-- A file is accepted, or refused with a number and a place.
abbrev pub judged : Input → Verdict → Type 0
judged f (Ok u) = Accepted f
judged f (Err r) = FileRefused f (number_of r.fault) r.place

-- The head, the total and the state blocks are right, or the front is refused with a number and a place.
pub record Front (f : Input) : Type 0 where
  pub whole : LengthFault f → ⊥
  pub total : TotalFault f → ⊥
  pub blocks : (b : ℕ) → b ≤ state_blocks f → BlockRight f b

abbrev pub fronted : Input → Verdict → Type 0
fronted f (Ok u) = Front f
fronted f (Err r) = FrontRefused f (number_of r.fault) r.place
