-- What is said of reading where the bytes that a reader has are known, as those of a slice are: they are kept as one part, whatever parts they
-- come in.
use Rattle.std.specs.Prelude.{ℕ, ◌^◌, ◌<◌, ◌≡◌, List, length, Some, None, Result, Ok, Err}
use Rattle.std.specs.Io.KnownBytes.{Keeps, Consumes, IsAtEnd}
use Rattle.std.specs.declared.option.Option.{Option}
use Rattle.std.specs.declared.io.Error.{Error}
use Rattle.input.specs.Kept.{SoFar, fresh, taken}
use Rattle.input.specs.Reads.{so_far}
use Rattle.input.specs.declared.Input.{Input}

-- The reader gave a part, and it was taken.
pub record GavePart (old new : Option (List ℕ)) (s : SoFar) (after : List ℕ) (next : Input) : Type 0 where
  pub part : List ℕ
  pub some : 0 < length part
  pub given : Consumes old new part
  pub is : so_far after next ≡ taken s part

-- The reader has nothing left, and had nothing.
pub record GaveNone (old new : Option (List ℕ)) : Type 0 where
  pub given : Keeps old new
  pub end : IsAtEnd new

-- What one read gives. A failure takes nothing from the reader.
abbrev pub PartOf : Option (List ℕ) → Option (List ℕ) → SoFar → List ℕ → Result (Option Input) Error → Type 0
PartOf old new s after (Ok (Some next)) = GavePart old new s after next
PartOf old new s after (Ok None) = GaveNone old new
PartOf old new s after (Err _) = Keeps old new

pub record GivesPart (old new : Option (List ℕ)) (s : SoFar) (after : List ℕ) (r : Result (Option Input) Error) : Type 0 where
  pub step : PartOf old new s after r

-- What the reader gave is what came. With fewer bytes than there are reads, it gave all that it had.
pub record GaveAll (old new : Option (List ℕ)) (before after : List ℕ) (i : Input) : Type 0 where
  pub bytes : List ℕ
  pub given : Consumes old new bytes
  pub is : so_far after i ≡ taken (fresh before) bytes
  pub end : length bytes < 2 ^ 47 → IsAtEnd new

-- What it gave before a read failed stands in the buffer too.
pub record GaveSome (old new : Option (List ℕ)) (before after : List ℕ) : Type 0 where
  pub bytes : List ℕ
  pub given : Consumes old new bytes
  pub is : after ≡ (taken (fresh before) bytes).buffer

abbrev pub GivenOf : Option (List ℕ) → Option (List ℕ) → List ℕ → List ℕ → Result Input Error → Type 0
GivenOf old new before after (Ok i) = GaveAll old new before after i
GivenOf old new before after (Err _) = GaveSome old new before after

pub record Gives (old new : Option (List ℕ)) (before after : List ℕ) (r : Result Input Error) : Type 0 where
  pub reading : GivenOf old new before after r
