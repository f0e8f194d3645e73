-- What the answers tell.
use Rattle.std.specs.Prelude.{ℕ, ◌+◌, ◌*◌, ◌≤◌, ◌<◌, ◌≡◌, ◌⊎◌, true, false, List, length, Result, Ok, Err}
use Rattle.meaning.specs.Chain.{most_states, most_edges, edge_size, edge}
use Rattle.meaning.specs.Block.{Input, byte, number_at, state_blocks, demanded, head_states, head_edges, flag_in, edge_reward_byte, weight_byte}
use Rattle.meaning.specs.File.{
  BlockRefused,
  BlockRight,
  FileRefused,
  Accepted,
  most_blocks,
  edge_in,
  Tables,
  filled_in,
  Reading as Answer,
  no_reading,
  reading,
}
use Rattle.meaning.specs.Salvage.{edge_kept, left_tables, Salvage, no_salvage, verdict, salvage}
use Rattle.chain.specs.Edge.{placed}
use Rattle.chain.specs.Refusal.{number_of}
use Rattle.chain.specs.declared.refusal.Refusal.{Refusal}
use Rattle.chainfile.specs.declared.Book.{Book}
use Rattle.chainfile.specs.declared.Left.{Left}

-- A block is kept, which the number 0 says, or lost by the number.
pub record LostBy (f : Input) (b number : ℕ) : Type 0 where
  pub kept : number ≡ 0 → BlockRight f b
  pub lost : (number ≡ 0 → ⊥) → BlockRefused f b number

-- The numbers by which the edge blocks are lost; that of every other block is 0.
pub record Verdicts (f : Input) (lost : List ℕ) : Type 0 where
  pub size : length lost ≡ most_blocks
  pub edges : (b : ℕ) → state_blocks f < b → b < demanded f → LostBy f b (verdict lost b)
  pub others : (b : ℕ) → (b ≤ state_blocks f) ⊎ (demanded f ≤ b) → verdict lost b ≡ 0

-- The edge whose record begins at this byte.
abbrev pub edge_from : Input → ℕ → List ℕ
edge_from f at = edge (byte f at) (byte f (at + 1)) (number_at f (at + weight_byte) 4) (number_at f (at + edge_reward_byte) 2)

-- Where edge e is kept it goes to place k of the table, and the next place is the one after it; else nothing goes there.
pub data EdgeSet (f : Input) (lost : List ℕ) (e k : ℕ) (before after : List ℕ) (next : ℕ) : Type 0 where
  set : edge_kept f (verdict lost) e ≡ true → after ≡ placed before k (edge_in f e) → next ≡ k + 1 → EdgeSet f lost e k before after next
  skipped : edge_kept f (verdict lost) e ≡ false → after ≡ before → next ≡ k → EdgeSet f lost e k before after next

-- What the tests of a file's front keep its numbers within.
pub record Within (f : Input) : Type 0 where
  pub few_states : head_states f ≤ most_states
  pub few_edges : head_edges f ≤ most_edges
  pub flags : (i : ℕ) → i < head_states f → flag_in f i ≤ 1

abbrev pub tables : List ℕ → List ℕ → List ℕ → List ℕ → Tables
tables denominators edges order rewards =
    record { denominators = denominators; edges = edges; order = order; rewards = rewards }

-- The numbers of each answer.
abbrev pub told : Result Book Refusal → Answer
told (Ok b) =
    record { number = 0; place = 0; states = b.chain.states; start = b.chain.start; goals = b.chain.goals; edges = b.edges }
told (Err r) = no_reading (number_of r.fault) r.place

abbrev pub left : Left → Salvage
left l = record { reading = told (Ok l.book); lost = l.lost }

abbrev pub told_left : Result Left Refusal → Salvage
told_left (Ok l) = left l
told_left (Err r) = no_salvage (number_of r.fault) r.place

-- 2: one of these lengths is under what a chain of so many states and edges needs.
abbrev pub ShortFor : ℕ → ℕ → ℕ → ℕ → ℕ → ℕ → Type 0
ShortFor states count denominators edges order rewards =
    (denominators < states) ⊎ (edges < edge_size * count) ⊎ (order < states) ⊎ (rewards < states)

abbrev pub ShortIn : ℕ → ℕ → Tables → Type 0
ShortIn states count t =
    ShortFor states count (length t.denominators) (length t.edges) (length t.order) (length t.rewards)

-- One of these tables is under what the file's own chain needs.
abbrev pub Narrow : Input → Tables → Type 0
Narrow f t = ShortIn (head_states f) (head_edges f) t

-- A reader that asks for no more than that gives 20 to 24, and 2 only after them; a refusal leaves the tables.
pub data OpenOutcome (f : Input) (before : Tables) (a : Answer) (after : Tables) : Type 0 where
  refused : (number place : ℕ) → FileRefused f number place → a ≡ no_reading number place → after ≡ before → OpenOutcome f before a after
  narrow : Accepted f → Narrow f before → a ≡ no_reading 2 0 → after ≡ before → OpenOutcome f before a after
  accepted : Accepted f → (Narrow f before → ⊥) → a ≡ reading f → after ≡ filled_in f before → OpenOutcome f before a after

-- The verdicts on the edge blocks, and the tables and the answer of what is left by them.
pub record LeftOver (f : Input) (before : Tables) (a : Salvage) (after : Tables) : Type 0 where
  pub verdicts : Verdicts f a.lost
  pub answer : a ≡ salvage f a.lost
  pub tables : after ≡ left_tables f (verdict a.lost) before
