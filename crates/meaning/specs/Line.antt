-- Chains that are nearly a line (request 12): how many places of the order an edge spans, and the sum that has a limit then.
use Rattle.std.specs.Prelude.{ℕ, ◌+◌, ◌≤◌, ◌<◌, ◌≡◌, Bool, true, List, get_or}
use Rattle.meaning.specs.Number.{sum_to, only}
use Rattle.meaning.specs.Chain.{Chain, edge_count, from, to}
use Rattle.meaning.specs.Step.{Sets, goes}
use Rattle.meaning.specs.Choice.{product_at}

-- Position p of the order has a live state other than the start.
abbrev pub counts : Chain → Sets → List ℕ → ℕ → Bool
counts c k o p = goes c.start k.live (get_or o p 0)

-- How many of the first p positions have one: places are counted among those states alone.
abbrev pub places_before : Chain → Sets → List ℕ → ℕ → ℕ
places_before c k o p = sum_to (λ q. only (counts c k o q) 1) p

-- Positions p and q are at most b places apart, whichever of them comes first.
abbrev pub Apart : Chain → Sets → List ℕ → ℕ → ℕ → ℕ → Type 0
Apart c k o b p q = (places_before c k o p ≤ places_before c k o q + b) × (places_before c k o q ≤ places_before c k o p + b)

-- Any edge between two live states other than the start spans at most b places.
pub record ShortEdges (c : Chain) (k : Sets) (o : List ℕ) (b : ℕ) : Type 0 where
  pub spans : (e p q : ℕ) → e < edge_count c.edges → p < c.states → q < c.states
      → from c.edges e ≡ get_or o p 0 → to c.edges e ≡ get_or o q 0 → counts c k o p ≡ true → counts c k o q ≡ true
      → Apart c k o b p q

-- The sum of the products along the order: of each live state other than the start, at its turn.
abbrev pub products_along : Chain → Sets → List ℕ → ℕ
products_along c k o = sum_to (λ p. only (counts c k o p) (product_at c k o p (get_or o p 0))) c.states
