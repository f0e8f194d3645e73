-- What is said of reading. Which bytes the operating system hands over nobody promises: so it is said for some parts.
use Rattle.std.specs.Prelude.{ℕ, ◌≤◌, ◌<◌, ◌≡◌, List, length, Option, Some, None, Result, Ok, Err}
use Rattle.std.specs.declared.io.Error.{Error}
use Rattle.input.specs.Kept.{SoFar, fresh, taken, all_taken}
use Rattle.input.specs.declared.Input.{Input}

-- A buffer, with what the code says of it.
abbrev pub so_far : List ℕ → Input → SoFar
so_far buffer i = record { buffer = buffer; kept = i.length; more = i.more }

-- One part of some bytes was taken, of no more than one read asks for.
pub record TookPart (s : SoFar) (after : List ℕ) (next : Input) : Type 0 where
  pub part : List ℕ
  pub some : 0 < length part
  pub few : length part ≤ 65536
  pub is : so_far after next ≡ taken s part

-- What one read comes to: the end of the input and a failure leave the buffer.
abbrev pub StepOf : SoFar → List ℕ → Result (Option Input) Error → Type 0
StepOf s after (Ok (Some next)) = TookPart s after next
StepOf s after (Ok None) = after ≡ s.buffer
StepOf s after (Err _) = after ≡ s.buffer

pub record Steps (s : SoFar) (after : List ℕ) (r : Result (Option Input) Error) : Type 0 where
  pub step : StepOf s after r

-- All parts that came, one after the other, from a buffer in which nothing had come.
pub record CameAs (before after : List ℕ) (i : Input) : Type 0 where
  pub parts : List (List ℕ)
  pub is : so_far after i ≡ all_taken (fresh before) parts

-- What came before a read failed stands in the buffer too.
pub record LeftAs (before after : List ℕ) : Type 0 where
  pub parts : List (List ℕ)
  pub is : after ≡ (all_taken (fresh before) parts).buffer

abbrev pub ReadingOf : List ℕ → List ℕ → Result Input Error → Type 0
ReadingOf before after (Ok i) = CameAs before after i
ReadingOf before after (Err _) = LeftAs before after

pub record Reads (before after : List ℕ) (r : Result Input Error) : Type 0 where
  pub reading : ReadingOf before after r
