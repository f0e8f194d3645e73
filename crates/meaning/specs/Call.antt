-- The call from C: file bytes, a mode and an answer of four 4-byte little-endian numbers.
use Rattle.std.specs.Prelude.{ℕ, ◌*◌, ◌/◌, ◌%◌, ◌^◌, ◌≤◌, ◌<◌, ◌≡◌, ◌⊎◌, List, ◌++◌, length}
use Rattle.meaning.specs.Number.{tab_from, filled}
use Rattle.meaning.specs.Outcome.{Answer, ChanceOutcome, Bounds, between, BoundsOutcome}
use Rattle.meaning.specs.Block.{Input, whole_file, four_byte_number}
use Rattle.meaning.specs.File.{FileRefused, Accepted, plain_in}

-- Modes: 0 is the default, 1 exact, 2 bounds.
abbrev pub default_mode : ℕ
default_mode = 0

abbrev pub exact_mode : ℕ
exact_mode = 1

abbrev pub bounds_mode : ℕ
bounds_mode = 2

-- Which engine each mode asks, since request 9: 1 remains exact, and 0 means bounds, as 2 does.
abbrev pub AsksExact : ℕ → Type 0
AsksExact mode = mode ≡ exact_mode

abbrev pub AsksBounds : ℕ → Type 0
AsksBounds mode = (mode ≡ default_mode) ⊎ (mode ≡ bounds_mode)

-- How long the answer is.
abbrev pub answer_length : ℕ
answer_length = 16

-- x in 4 bytes, little-endian.
abbrev pub four_bytes : ℕ → List ℕ
four_bytes x = tab_from 0 4 (λ i. x / 256 ^ i % 256)

-- Lower, then upper; numerator first.
abbrev pub answer_bytes : ℕ → ℕ → ℕ → ℕ → List ℕ
answer_bytes p q s t = four_bytes p ++ four_bytes q ++ four_bytes s ++ four_bytes t

-- Number i of an answer, counted from 0, as it is read back: as a number of 4 bytes is read in a file.
abbrev pub answer_number : List ℕ → ℕ → ℕ
answer_number answer i = four_byte_number answer i

-- The two fractions of an answer, as they are read back.
abbrev pub answer_read : List ℕ → Bounds
answer_read answer = between (answer_number answer 0) (answer_number answer 1) (answer_number answer 2) (answer_number answer 3)

-- What the engine of a mode says of an accepted file: its number, 0 where it answers, and the bytes of its fractions; the exact engine's
-- fraction stands twice.
pub data Said (f : Input) (mode number : ℕ) (bytes : List ℕ) : Type 0 where
  exactly : AsksExact mode → (a : Answer) (w : List ℕ) → ChanceOutcome (plain_in f) a w → number ≡ a.number
      → bytes ≡ answer_bytes a.numerator a.denominator a.numerator a.denominator → Said f mode number bytes
  bounded : AsksBounds mode → (a : Bounds) (w : List ℕ) → BoundsOutcome (plain_in f) a w → number ≡ a.number
      → bytes ≡ answer_bytes a.lower_numerator a.lower_denominator a.upper_numerator a.upper_denominator
      → Said f mode number bytes

-- What the call returns, and the answer bytes afterwards: the mode is tested, then the answer's length, then the file, then the chain. On a
-- refusal the answer bytes stay, and bytes beyond 16 always do.
pub data CallOutcome (file : List ℕ) (mode : ℕ) (before : List ℕ) (returned : ℕ) (after : List ℕ) : Type 0 where
  mode_wrong : bounds_mode < mode → returned ≡ 1 → after ≡ before → CallOutcome file mode before returned after
  answer_short : mode ≤ bounds_mode → length before < answer_length → returned ≡ 2 → after ≡ before
      → CallOutcome file mode before returned after
  file_refused : mode ≤ bounds_mode → answer_length ≤ length before → (number place : ℕ) → FileRefused (whole_file file) number place
      → returned ≡ number → after ≡ before → CallOutcome file mode before returned after
  chain_refused : mode ≤ bounds_mode → answer_length ≤ length before → Accepted (whole_file file) → (number : ℕ) (bytes : List ℕ)
      → Said (whole_file file) mode number bytes → 0 < number → returned ≡ number → after ≡ before
      → CallOutcome file mode before returned after
  answered : mode ≤ bounds_mode → answer_length ≤ length before → Accepted (whole_file file) → (bytes : List ℕ)
      → Said (whole_file file) mode 0 bytes → returned ≡ 0 → after ≡ filled bytes before → CallOutcome file mode before returned after
