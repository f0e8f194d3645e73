-- What one step of writing into a buffer asks and does.
use Rattle.std.specs.Prelude.{ℕ, ◌+◌, ◌/◌, ◌%◌, ◌^◌, ◌≤◌, ◌≡◌, List, ◌++◌, length, take, drop}
use Rattle.meaning.specs.Number.{tab_from}

-- There is room for the text from the place on.
abbrev pub Room : List ℕ → ℕ → List ℕ → Type 0
Room before place text = place + length text ≤ length before

-- The text stands from the place on, next is the place after it, and all other bytes are as they were.
pub record Written (before : List ℕ) (place : ℕ) (text : List ℕ) (after : List ℕ) (next : ℕ) : Type 0 where
  pub past : next ≡ place + length text
  pub room : next ≤ length before
  pub bytes : after ≡ take place before ++ text ++ drop next before

-- The text is written, or there is no room for it: then every byte is as it was, and the place too.
pub data Stored (before : List ℕ) (place : ℕ) (text : List ℕ) (after : List ℕ) (next : ℕ) : Type 0 where
  written : Written before place text after next → Stored before place text after next
  full : (Room before place text → ⊥) → after ≡ before → next ≡ place → Stored before place text after next

-- x in so many bytes, little-endian.
abbrev pub little_endian : ℕ → ℕ → List ℕ
little_endian width x = tab_from 0 width (λ i. x / 256 ^ i % 256)
