-- The first rows: what is made of the gathered weights, and what is asked of the chain.
use Rattle.std.specs.Prelude.{◌≡◌, Bool, true, false, List, ℕ, ◌+◌, ◌^◌, ◌≤◌, ◌<◌, eqb, length, get_or, set}
use Rattle.std.specs.Int.Count.{ones}
use Rattle.meaning.specs.Number.{choose, bit}
use Rattle.meaning.specs.Chain.{most_states, M, Chain, denominator, edge_count, from, Goal, End}
use Rattle.meaning.specs.Row.{Row, cell, width, total, reward_column, divisor, settled, rounding}
use Rattle.meaning.specs.Step.{Sets, RightTo, unknown}
use Rattle.meaning.specs.Refusal.{work_size}
use Rattle.theory.specs.Chains.Fine.{FineTo}
use Rattle.elimination.specs.Pay.{Earnable}
use Rattle.elimination.specs.Packed.{states_of, weights_at, unpacked, Packed}
use Rattle.elimination.specs.Table.{part_at}

-- A row that was gathered by columns in its own part can be packed: its weights are to states of the set live, which leaves a state out, and fit.
pub record Packable (live : ℕ) (p : List ℕ) : Type 0 where
  pub few : states_of p ≤ most_states
  pub inside : (j : ℕ) → bit live j ≡ 1 → j < states_of p
  pub room : weights_at + ones live ≤ length p
  pub outside : (j : ℕ) → j < states_of p → bit live j ≡ 0 → cell p j ≡ 0
  pub fits : (j : ℕ) → j < states_of p → cell p j ≤ M

-- p has become v: the gathered row with what it earns, packed.
pub record PackedFrom (earns : ℕ) (p v : List ℕ) : Type 0 where
  pub packed : (n : ℕ) → length p ≡ width n → Packed n v
  pub row : (n : ℕ) → length p ≡ width n → unpacked n v ≡ set p (reward_column n) earns

-- A row that is gathered, with what it earns, and settled; the row of a state that is not live, for which nothing is gathered, stays.
unfoldable pub finished : Bool → ℕ → Bool → ℕ → Row → Row
finished b n alive earns r = choose alive (settled b n (set r (reward_column n) earns)) r

-- The divisor that is taken out of it: 1 of the row of a state that is not live.
unfoldable pub finished_divisor : ℕ → Bool → ℕ → Row → ℕ
finished_divisor n alive earns r = choose alive (divisor (set r (reward_column n) earns)) 1

-- What is known of a gathered row: that of a live state can be packed and summed, that of another is zero, and the bounds engine earns nothing.
pub record Unfinished (b : Bool) (n : ℕ) (alive : Bool) (live earns : ℕ) (r : Row) : Type 0 where
  pub size : length r ≡ width n
  pub ready : alive ≡ true → Packable live r
  pub bound : alive ≡ true → total n r < 2 ^ 63
  pub zero : alive ≡ false → (j : ℕ) → cell r j ≡ 0
  pub unpaid : b ≡ rounding → earns ≡ 0

-- Row i of the table in w, finished; pay says what its state earns.
abbrev pub finished_at : Bool → ℕ → ℕ → List ℕ → List ℕ → ℕ → Row
finished_at b n live pay w i = finished b n (eqb (bit live i) 1) (get_or pay i 0) (part_at n w i)

-- Each row of the table in w can be finished.
pub record Finishable (b : Bool) (n live : ℕ) (pay w : List ℕ) : Type 0 where
  pub few : n ≤ most_states
  pub room : work_size n ≤ length w
  pub gathered : (i : ℕ) → i < n → Unfinished b n (eqb (bit live i) 1) live (get_or pay i 0) (part_at n w i)

-- What the first rows are made from: a chain with a goal whose denominators fit and whose rows may fall short or not, its own sets, room, and where
-- a turn earns, rewards that fit; in the bounds engine it does not.
pub record Makeable (b p short : Bool) (c : Chain) (k : Sets) (rewards work : List ℕ) : Type 0 where
  pub few : c.states ≤ most_states
  pub room : work_size c.states ≤ length work
  pub fine : FineTo c (unknown short c)
  pub sources : (e : ℕ) → e < edge_count c.edges → from c.edges e < c.states
  pub small : (i : ℕ) → i < c.states → denominator c i ≤ M
  pub start : c.start < c.states
  pub right : RightTo c (End short c) k
  pub goal : (g : ℕ) × ((g < c.states) × Goal c g)
  pub paid : p ≡ true → Earnable c.states c.denominators c.edges rewards
  pub unpaid : b ≡ rounding → p ≡ false
