-- Showing a chain file as a text, and making a chain file from a text.
use Rattle.std.specs.Prelude.{ℕ, ◌≤◌, ◌<◌, ◌≡◌, ◌⊎◌, List, ◌++◌, length}
use Rattle.meaning.specs.Number.{filled}
use Rattle.meaning.specs.Refusal.{Lent, Refused, WellFormed}
use Rattle.meaning.specs.Block.{Input}
use Rattle.meaning.specs.File.{FileRefused, Accepted, paid_in}
use Rattle.meaning.specs.Buffer.{Writing, no_writing, writing}
use Rattle.meaning.specs.Write.{FileOf, filing}
use Rattle.meaning.specs.Reorder.{longest_file}
use Rattle.meaning.specs.Text.{bytes_of}
use Rattle.meaning.specs.Report.{refused_text, TextOutcome}
use Rattle.meaning.specs.ChainText.{chain_text, TextRefused, TextSays}

-- t is what is shown of the input f: the line of a refusal by 20 to 24, or the text of its chain with its tables, be it well formed or not.
pub data Shown (f : Input) (t : List ℕ) : Type 0 where
  file_refused : (number place : ℕ) → FileRefused f number place → t ≡ refused_text number place ++ bytes_of "\n" → Shown f t
  shown : Accepted f → t ≡ chain_text (paid_in f) → Shown f t

-- Room for any such text: three lines, 64 of 93 bytes, one of 1,350 and 4,096 of 103, since numbers of 64 bits have 20 digits.
abbrev pub shown_room : ℕ
shown_room = 429272

abbrev pub ShowOutcome : Input → List ℕ → Writing → List ℕ → Type 0
ShowOutcome f = TextOutcome shown_room (Shown f)

-- The same for a caller who is told a refusal's number and place: 2, then 20 to 24. A refusal leaves the whole buffer.
pub data TextedOutcome (f : Input) (before : List ℕ) (a : Writing) (after : List ℕ) : Type 0 where
  short : length before < shown_room → a ≡ no_writing 2 0 → after ≡ before → TextedOutcome f before a after
  file_refused : shown_room ≤ length before → (number place : ℕ) → FileRefused f number place → a ≡ no_writing number place → after ≡ before
      → TextedOutcome f before a after
  texted : shown_room ≤ length before → Accepted f → a ≡ writing (length (chain_text (paid_in f))) → after ≡ filled (chain_text (paid_in f)) before
      → TextedOutcome f before a after

-- 41: the text is longer than any that is read, or not all of it was kept. The longest with no comments has 183,707 bytes.
abbrev pub most_text : ℕ
most_text = 262144

abbrev pub TextLong : Input → Type 0
TextLong f = (most_text < length f.kept) ⊎ (0 < f.more)

-- A buffer with less than the room for any file is refused by 2. Then comes 41, then 40 with the line, then 3 to 10 of the chain that the text
-- says; a refusal leaves the whole buffer. 1, 2 and 11 never come of it: a text says tables that fit one another, with rewards that a file has
-- room for, and the buffer has room for any file. Else the file stands at the buffer's front, and bytes past it stay.
pub data MakeOutcome (f : Input) (before : List ℕ) (a : Writing) (after : List ℕ) : Type 0 where
  short : length before < longest_file → a ≡ no_writing 2 0 → after ≡ before → MakeOutcome f before a after
  text_long : longest_file ≤ length before → TextLong f → a ≡ no_writing 41 0 → after ≡ before → MakeOutcome f before a after
  text_refused : longest_file ≤ length before → (TextLong f → ⊥) → (place : ℕ) → TextRefused f.kept place → a ≡ no_writing 40 place
      → after ≡ before → MakeOutcome f before a after
  chain_refused : longest_file ≤ length before → (TextLong f → ⊥) → (l : Lent) → TextSays f.kept l → l.work ≡ before
      → (number place : ℕ) → Refused filing l number place → a ≡ no_writing number place → after ≡ before → MakeOutcome f before a after
  made : longest_file ≤ length before → (TextLong f → ⊥) → (l : Lent) → TextSays f.kept l → l.work ≡ before → WellFormed filing l
      → (file : List ℕ) → FileOf l file → a ≡ writing (length file) → after ≡ filled file before → MakeOutcome f before a after
