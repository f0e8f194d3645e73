-- Saving what is left of a damaged file (request 10): which edge blocks are lost, what the salvaging reader hands over, and what the program prints.
use Rattle.std.specs.Prelude.{ℕ, ◌+◌, ◌*◌, ◌/◌, ◌≤◌, ◌<◌, ◌≡◌, ◌⊎◌, Bool, true, List, [], ◌++◌, length, get_or, replicate, eqb, ltb}
use Rattle.meaning.specs.Number.{sum_to, only, join_to, filled}
use Rattle.meaning.specs.Chain.{most_states, Chain, edge_count, from, to, weight, missing}
use Rattle.meaning.specs.Refusal.{Lent, plain, own_work, Refused, WellFormed}
use Rattle.meaning.specs.Outcome.{Bounds, BoundsOutcome}
use Rattle.meaning.specs.Left.{short_rows, LeftOutcome}
use Rattle.meaning.specs.Block.{Input, full_block, head_states, head_start, head_edges, state_blocks, demanded, from_in, to_in, weight_in}
use Rattle.meaning.specs.File.{
  LengthFault,
  BlockRefused,
  BlockRight,
  TotalFault,
  most_blocks,
  Accepted,
  goals_in,
  denominators_in,
  rewards_in,
  orders_in,
  edge_in,
  plain_in,
  Tables,
  Short,
  Reading,
  no_reading,
}
use Rattle.meaning.specs.Buffer.{Writing}
use Rattle.meaning.specs.Text.{bytes_of, decimal}
use Rattle.meaning.specs.Report.{refused_text, bounds_text, line_text, TextOutcome}

-- 20 to 24 of the head and the state blocks, and 24 at 0 for the block total: an edge block that is refused refuses nothing else.
pub data FrontRefused (f : Input) : ℕ → ℕ → Type 0 where
  length_wrong : LengthFault f → FrontRefused f 20 0
  head_wrong : (number : ℕ) → (LengthFault f → ⊥) → BlockRefused f 0 number → FrontRefused f number 0
  total_wrong : (LengthFault f → ⊥) → BlockRight f 0 → TotalFault f → FrontRefused f 24 0
  states_wrong : (number b : ℕ) → (LengthFault f → ⊥) → (TotalFault f → ⊥) → 0 < b → b ≤ state_blocks f
      → ((a : ℕ) → a < b → BlockRight f a) → BlockRefused f b number → FrontRefused f number b

-- Head, total and state blocks are right. Of each edge block v says by which of 21 to 24 it is lost, and 0 where it is kept.
pub record Opened (f : Input) (v : ℕ → ℕ) : Type 0 where
  pub whole : LengthFault f → ⊥
  pub total : TotalFault f → ⊥
  pub front : (b : ℕ) → b ≤ state_blocks f → BlockRight f b
  pub kept : (b : ℕ) → state_blocks f < b → b < demanded f → v b ≡ 0 → BlockRight f b
  pub lost : (b : ℕ) → state_blocks f < b → b < demanded f → (v b ≡ 0 → ⊥) → BlockRefused f b (v b)
  pub none : (b : ℕ) → (b ≤ state_blocks f) ⊎ (demanded f ≤ b) → v b ≡ 0

-- A block is lost.
abbrev pub Lost : (ℕ → ℕ) → Type 0
Lost v = (b : ℕ) × (v b ≡ 0 → ⊥)

-- Edge e, by its index in the whole file, is kept where its block is.
abbrev pub edge_kept : Input → (ℕ → ℕ) → ℕ → Bool
edge_kept f v e = eqb (v (1 + state_blocks f + e / full_block)) 0

-- The kept ones of the first e edges, in the file's order.
abbrev pub kept_edges : Input → (ℕ → ℕ) → ℕ → List ℕ
kept_edges f v e = join_to (edge_kept f v) (edge_in f) e

-- How many of the first e edges are kept.
abbrev pub kept_before : Input → (ℕ → ℕ) → ℕ → ℕ
kept_before f v e = sum_to (λ d. only (edge_kept f v d) 1) e

-- e is the index in the whole file of the kept edge j.
pub record IndexOf (f : Input) (v : ℕ → ℕ) (j e : ℕ) : Type 0 where
  pub inside : e < head_edges f
  pub kept : edge_kept f v e ≡ true
  pub before : kept_before f v e ≡ j

-- The chain that is left.
abbrev pub left_chain : Input → (ℕ → ℕ) → Chain
left_chain f v =
    record {
      states = head_states f;
      start = head_start f;
      goals = goals_in f;
      denominators = denominators_in f;
      edges = kept_edges f v (head_edges f);
    }

-- What the entry for the bounds of what is left is lent.
abbrev pub left_in : Input → (ℕ → ℕ) → Lent
left_in f v = own_work (left_chain f v) (orders_in f) []

-- A chain that the lost records complete: head, states and kept edges are the file's, and at the lost indices stands anything.
pub record Completes (f : Input) (v : ℕ → ℕ) (c : Chain) : Type 0 where
  pub states : c.states ≡ head_states f
  pub start : c.start ≡ head_start f
  pub goals : c.goals ≡ goals_in f
  pub denominators : c.denominators ≡ denominators_in f
  pub edges : edge_count c.edges ≡ head_edges f
  pub kept : (e : ℕ) → e < head_edges f → edge_kept f v e ≡ true
      → (from c.edges e ≡ from_in f e) × (to c.edges e ≡ to_in f e) × (weight c.edges e ≡ weight_in f e)

-- The tables of what is left. Entries past what was kept stay.
abbrev pub left_tables : Input → (ℕ → ℕ) → Tables → Tables
left_tables f v t =
    record {
      denominators = filled (denominators_in f) t.denominators;
      edges = filled (kept_edges f v (head_edges f)) t.edges;
      order = filled (orders_in f) t.order;
      rewards = filled (rewards_in f) t.rewards;
    }

-- What the salvaging reader answers: as the reader does, a number and its block, or the head's numbers and the goals, but with the number of edges
-- that are kept; and for each block the number by which it is lost, 0 where it is kept.
pub record Salvage : Type 0 where
  pub reading : Reading
  pub lost : List ℕ

abbrev pub no_salvage : ℕ → ℕ → Salvage
no_salvage number place = record { reading = no_reading number place; lost = replicate most_blocks 0 }

-- The verdict on block b in a list of them.
abbrev pub verdict : List ℕ → ℕ → ℕ
verdict lost b = get_or lost b 0

abbrev pub salvage : Input → List ℕ → Salvage
salvage f lost =
    record {
      reading =
          record {
            number = 0;
            place = 0;
            states = head_states f;
            start = head_start f;
            goals = goals_in f;
            edges = kept_before f (verdict lost) (head_edges f);
          };
      lost = lost;
    }

-- The salvaging reader gives 2, before 20, and 20 to 24 of the front; a refusal leaves the tables.
pub data SalvageOutcome (f : Input) (before : Tables) (a : Salvage) (after : Tables) : Type 0 where
  short : Short before → a ≡ no_salvage 2 0 → after ≡ before → SalvageOutcome f before a after
  refused : (Short before → ⊥) → (number place : ℕ) → FrontRefused f number place → a ≡ no_salvage number place → after ≡ before
      → SalvageOutcome f before a after
  opened : (Short before → ⊥) → (lost : List ℕ) → length lost ≡ most_blocks → Opened f (verdict lost) → a ≡ salvage f lost
      → after ≡ left_tables f (verdict lost) before → SalvageOutcome f before a after

-- The place of a refusal of what is left: that of an edge, 6 to 8, is its index in the whole file.
pub data PlaceIn (f : Input) (v : ℕ → ℕ) (number place : ℕ) : ℕ → Type 0 where
  edge : (e : ℕ) → 5 < number → number < 9 → IndexOf f v place e → PlaceIn f v number place e
  other : (number ≤ 5) ⊎ (9 ≤ number) → PlaceIn f v number place place

-- Two numbers after a word, as `lost 4 21`.
abbrev pub pair_text : List ℕ → ℕ → ℕ → List ℕ
pair_text word a b = line_text word (decimal a ++ bytes_of " " ++ decimal b)

-- The lines of the lost blocks below b, as `lost 4 21`: place, number.
abbrev pub lost_text : (ℕ → ℕ) → ℕ → List ℕ
lost_text v b = join_to (λ a. ltb 0 (v a)) (λ a. pair_text (bytes_of "lost ") a (v a)) b

-- The lines of the rows below i that fell short, as `short 2 1`: state, weight missing.
abbrev pub short_text : Chain → ℕ → List ℕ
short_text c i = join_to (λ j. ltb 0 (missing c j)) (λ j. pair_text (bytes_of "short ") j (missing c j)) i

-- t is what the program prints for the input f: the single line of a refusal; with nothing lost the line of the bounds; else the line of the
-- bounds of what is left, then the lost blocks and the rows that fell short, both rising.
pub data Salvaged (f : Input) (t : List ℕ) : Type 0 where
  file_refused : (number place : ℕ) → FrontRefused f number place → t ≡ refused_text number place ++ bytes_of "\n" → Salvaged f t
  whole_refused : (number place : ℕ) → Accepted f → Refused plain (plain_in f) number place → t ≡ refused_text number place ++ bytes_of "\n"
      → Salvaged f t
  whole : Accepted f → WellFormed plain (plain_in f) → (a : Bounds) (work : List ℕ) → BoundsOutcome (plain_in f) a work
      → t ≡ line_text (bytes_of "bounds ") (bounds_text a) → Salvaged f t
  left_refused : (v : ℕ → ℕ) → Opened f v → Lost v → (number place at : ℕ) → Refused short_rows (left_in f v) number place
      → PlaceIn f v number place at → t ≡ refused_text number at ++ bytes_of "\n" → Salvaged f t
  left : (v : ℕ → ℕ) → Opened f v → Lost v → WellFormed short_rows (left_in f v) → (a : Bounds) (work : List ℕ) → LeftOutcome (left_in f v) a work
      → t ≡ line_text (bytes_of "bounds ") (bounds_text a) ++ lost_text v (demanded f) ++ short_text (left_chain f v) (head_states f)
      → Salvaged f t

-- Room for any such text: that of the bounds line, of 66 lines of lost blocks and of 64 lines of rows.
abbrev pub bounds_room : ℕ
bounds_room = 51

abbrev pub lost_room : ℕ
lost_room = 11 * 66

abbrev pub short_room : ℕ
short_room = 20 * most_states

abbrev pub salvage_room : ℕ
salvage_room = bounds_room + lost_room + short_room

abbrev pub SalvagedOutcome : Input → List ℕ → Writing → List ℕ → Type 0
SalvagedOutcome f = TextOutcome salvage_room (Salvaged f)
