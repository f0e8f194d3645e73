-- A chain file with the chosen order (request 11): a chain file in, the file of the same chain out into a lent buffer.
use Rattle.std.specs.Prelude.{ℕ, ◌≤◌, ◌<◌, ◌≡◌, List, [], length}
use Rattle.meaning.specs.Number.{filled}
use Rattle.meaning.specs.Chain.{most_states, most_edges}
use Rattle.meaning.specs.Step.{Sets, Right}
use Rattle.meaning.specs.Refusal.{Lent, bare, Refused, WellFormed}
use Rattle.meaning.specs.Block.{Input}
use Rattle.meaning.specs.File.{FileRefused, Accepted, chain_in, rewards_in, bare_in}
use Rattle.meaning.specs.Buffer.{Writing, no_writing, writing}
use Rattle.meaning.specs.Write.{FileOf, file_size}
use Rattle.meaning.specs.Choice.{Chosen}

-- Room for any chain file.
abbrev pub longest_file : ℕ
longest_file = file_size most_states most_edges

-- What is written of an accepted file: its chain and its rewards, with the order o in place of its own, whatever that is.
abbrev pub reordered : Input → List ℕ → Lent
reordered f o = record { chain = chain_in f; order = o; rewards = rewards_in f; work = []; list = 0 }

-- A buffer with less than the room for any file is refused by 2, before all else. Then come 20 to 24, then 3 to 9; a refusal leaves the whole
-- buffer. Else the file stands at its front, the file's length is the answer, and bytes past the file stay.
pub data ReorderOutcome (f : Input) (before : List ℕ) (a : Writing) (after : List ℕ) : Type 0 where
  short : length before < longest_file → a ≡ no_writing 2 0 → after ≡ before → ReorderOutcome f before a after
  file_refused : longest_file ≤ length before → (number place : ℕ) → FileRefused f number place → a ≡ no_writing number place → after ≡ before
      → ReorderOutcome f before a after
  chain_refused : longest_file ≤ length before → Accepted f → (number place : ℕ) → Refused bare (bare_in f) number place
      → a ≡ no_writing number place → after ≡ before → ReorderOutcome f before a after
  written : longest_file ≤ length before → Accepted f → WellFormed bare (bare_in f) → (k : Sets) → Right (chain_in f) k
      → (o : List ℕ) (m : ℕ) → Chosen (chain_in f) k o m → (file : List ℕ) → FileOf (reordered f o) file → a ≡ writing (length file)
      → after ≡ filled file before → ReorderOutcome f before a after
