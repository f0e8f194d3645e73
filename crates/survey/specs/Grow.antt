-- A set of states that grows along the edges: one pass over them makes it larger, and it is whole once a pass adds nothing.
use Rattle.std.specs.Prelude.{ℕ, ◌+◌, ◌-◌, ◌≤◌, ◌<◌, ◌≡◌, Bool, not, List}
use Rattle.meaning.specs.Number.{choose, bit}
use Rattle.meaning.specs.Chain.{edge_count, from, to}

-- An edge leads from its tail to its head: backwards these are its target and its source.
abbrev pub tail : Bool → List ℕ → ℕ → ℕ
tail back edges e = choose back (to edges e) (from edges e)

abbrev pub head : Bool → List ℕ → ℕ → ℕ
head back edges e = tail (not back) edges e

-- i is in the set and not in the barrier, at which nothing goes on.
pub record Open (barrier set i : ℕ) : Type 0 where
  pub inside : bit set i ≡ 1
  pub free : bit barrier i ≡ 1 → ⊥

-- Over which edges, backwards or not, and up to which barrier a set grows.
pub record Way : Type 0 where
  pub back : Bool
  pub barrier : ℕ
  pub edges : List ℕ

abbrev pub way : Bool → ℕ → List ℕ → Way
way back barrier edges = record { back = back; barrier = barrier; edges = edges }

-- What grows from a seed: its states, and the head of each edge whose tail has grown and is not in the barrier.
pub data Grown (w : Way) (seed : ℕ) : ℕ → Type 0 where
  sown : {i : ℕ} → bit seed i ≡ 1 → Grown w seed i
  joined : (e : ℕ) → e < edge_count w.edges → Grown w seed (tail w.back w.edges e)
      → (bit w.barrier (tail w.back w.edges e) ≡ 1 → ⊥) → Grown w seed (head w.back w.edges e)

-- Edge e adds nothing to a set.
abbrev pub Idle : Way → ℕ → ℕ → Type 0
Idle w e set = Open w.barrier set (tail w.back w.edges e) → bit set (head w.back w.edges e) ≡ 1

-- The edge at place e of a pass over n edges: backwards the last edge comes first.
abbrev pub in_turn : Bool → ℕ → ℕ → ℕ
in_turn back n e = choose back (n - (e + 1)) e

-- None of the first k edges does.
abbrev pub AllIdle : Way → ℕ → ℕ → Type 0
AllIdle w k set = (e : ℕ) → e < k → Idle w e set

-- A set that is made larger by what grows from it; where it stays the same, this is known of it.
pub record Larger (w : Way) (Known : ℕ → Type 0) (set larger : ℕ) : Type 0 where
  pub grows : set ≤ larger
  pub kept : (i : ℕ) → bit set i ≡ 1 → bit larger i ≡ 1
  pub grown : (i : ℕ) → bit larger i ≡ 1 → Grown w set i
  pub whole : larger ≡ set → Known set

-- A set after edge e, and after a pass over all edges.
abbrev pub Joined : Way → ℕ → ℕ → ℕ → Type 0
Joined w e = Larger w (Idle w e)

abbrev pub AfterPass : Way → ℕ → ℕ → Type 0
AfterPass w = Larger w (AllIdle w (edge_count w.edges))
