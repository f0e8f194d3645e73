-- The states of a set that is written as one number, gone through from the lowest on.
use Rattle.std.specs.Prelude.{ℕ, ◌%◌, ◌^◌, ◌<◌, ◌≡◌}
use Rattle.std.specs.Int.Count.{ones}
use Rattle.meaning.specs.Chain.{most_states}
use Rattle.meaning.specs.Number.{bit}

-- The place of state j among those of a set: the count of ones below its bit.
abbrev pub place_of : ℕ → ℕ → ℕ
place_of set j = ones (set % 2 ^ j)

-- t is the lowest state of a set.
pub record Lowest (set t : ℕ) : Type 0 where
  pub inside : bit set t ≡ 1
  pub least : (i : ℕ) → i < t → bit set i ≡ 0
  pub small : t < most_states

-- A set without its lowest state.
pub record Others (set r : ℕ) : Type 0 where
  pub less : r < set
  pub gone : (t : ℕ) → Lowest set t → bit r t ≡ 0
  pub kept : (t : ℕ) → Lowest set t → (i : ℕ) → (i ≡ t → ⊥) → bit r i ≡ bit set i
