-- What is promised of the sets of a chain.
use Rattle.std.specs.Prelude.{ℕ, ◌<◌, ◌≡◌, ◌⊎◌, ◌↔◌, Bool, get_or, List, []}
use Rattle.meaning.specs.Number.{bit, decides}
use Rattle.meaning.specs.Chain.{Chain, End}
use Rattle.meaning.specs.Step.{Sets, RightTo}
use Rattle.meaning.specs.Survey.{Misses}
use Rattle.chain.specs.declared.Chain.{Chain as Frame}
use Rattle.chain.specs.declared.given.Given.{Given}
use Rattle.chain.specs.Lent.{lent}
use Rattle.survey.specs.declared.Sets.{Sets as Found}

-- The chain of an input with these denominators and edges.
abbrev pub chain_of : Frame → List ℕ → List ℕ → Chain
chain_of c denominators edges = (lent c denominators edges [] [] []).chain

abbrev pub chain_in : Given → Chain
chain_in g = chain_of g.chain g.denominators.now g.edges.now

-- The set has the states with the property P, and no other.
abbrev pub Exactly : (ℕ → Type 0) → ℕ → Type 0
Exactly P set = (i : ℕ) → (bit set i ≡ 1) ↔ P i

-- State i joins the set where a weight is missing from its row.
pub record Marked (set i lack r : ℕ) : Type 0 where
  pub is : (k : ℕ) → (bit r k ≡ 1) ↔ ((bit set k ≡ 1) ⊎ ((k ≡ i) × (0 < lack)))

-- k is in the set, or is one of the first n states and a weight is missing from its row.
abbrev pub MarkedTo : ℕ → List ℕ → ℕ → ℕ → Type 0
MarkedTo set lacks n k = (bit set k ≡ 1) ⊎ ((k < n) × (0 < get_or lacks k 0))

-- i is good and reached, and no goal.
pub record Alive (good reached goals i : ℕ) : Type 0 where
  pub leads : bit good i ≡ 1
  pub comes : bit reached i ≡ 1
  pub unwon : bit goals i ≡ 1 → ⊥

-- Some state is reached and not good.
abbrev pub Astray : ℕ → ℕ → Type 0
Astray good reached = (i : ℕ) × (bit reached i ≡ 1) × (bit good i ≡ 1 → ⊥)

-- The two sets that the elimination goes by.
abbrev pub sets_of : Found → Sets
sets_of s = record { good = s.good; live = s.live }

-- The sets are the chain's own, and it is known whether a state is reached that has no path to an end.
pub record Known (short : Bool) (c : Chain) (s : Found) : Type 0 where
  pub right : RightTo c (End short c) (sets_of s)
  pub missed : decides (Misses short c) s.missed
