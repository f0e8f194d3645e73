-- The writer of chain files (request 1): a chain's tables in, the bytes of a chain file out into a lent buffer.
use Rattle.std.specs.Prelude.{ℕ, ◌+◌, ◌*◌, ◌<◌, ◌≡◌, true, false, List, length, get_or}
use Rattle.meaning.specs.Number.{filled}
use Rattle.meaning.specs.Refusal.{Lent, Entry, Refused, WellFormed}
use Rattle.meaning.specs.Block.{whole_file, block_size, blocks_of, second_version, version_in}
use Rattle.meaning.specs.File.{Accepted, chain_in, orders_in, rewards_in}
use Rattle.meaning.specs.Buffer.{Writing, no_writing, writing}

-- Each number of a list is a byte.
abbrev pub Bytes : List ℕ → Type 0
Bytes s = (j : ℕ) → get_or s j 0 < 256

-- A file of what is lent: it is of version 2, it meets none of 20 to 24, and it is read back as the same chain, with the edges in the order
-- given.
pub record FileOf (l : Lent) (file : List ℕ) : Type 0 where
  pub bytes : Bytes file
  pub version : version_in (whole_file file) 0 ≡ second_version
  pub accepted : Accepted (whole_file file)
  pub chain : chain_in (whole_file file) ≡ l.chain
  pub order : orders_in (whole_file file) ≡ l.order
  pub rewards : rewards_in (whole_file file) ≡ l.rewards

-- How many bytes a file of so many states and edges has.
abbrev pub file_size : ℕ → ℕ → ℕ
file_size states edges = block_size * (1 + blocks_of states + blocks_of edges)

-- The writer gives the numbers 1 to 11. A chain with no edges is 1. The buffer is the table that it writes; shorter than the file it is 2.
abbrev pub filing : Entry
filing = record { order = true; rewards = true; short = false; fewest = 1; room = file_size; records = λ _. 0 }

-- A refusal leaves the whole buffer. Else a file stands at its front, the file's length is the answer, and bytes past the file stay.
pub data WriteOutcome (l : Lent) (a : Writing) (after : List ℕ) : Type 0 where
  refused : (number place : ℕ) → Refused filing l number place → a ≡ no_writing number place → after ≡ l.work → WriteOutcome l a after
  written : WellFormed filing l → (file : List ℕ) → FileOf l file → a ≡ writing (length file) → after ≡ filled file l.work
      → WriteOutcome l a after
