-- Whose turn it is at a block, and how many records the block holds.
use Rattle.std.specs.Prelude.{ℕ, ◌*◌, ◌-◌, ◌≤◌, ◌<◌, min, ◌≡◌}
use Rattle.std.proofs.Common.{⊎_elim, arith, eq-eqb, ne_eqb, le-leb}
use Rattle.std.proofs.lemmas.Bool.{lt-leb}
use Rattle.meaning.specs.Block.{Input, full_block, head_states, head_edges, state_blocks}
use Rattle.meaning.specs.File.{kind_of, count_of}
use Rattle.theory.specs.Numbers.Sum.{same, below}

-- The records that block k of a kind holds, of so many.
abbrev pub share : ℕ → ℕ → ℕ
share records k = min full_block (records - full_block * k)

pub data Turn (f : Input) (b : ℕ) : Type 0 where
  head : b ≡ 0 → kind_of f b ≡ 1 → count_of f b ≡ 1 → Turn f b
  state : 0 < b → b ≤ state_blocks f → kind_of f b ≡ 2 → count_of f b ≡ share (head_states f) (b - 1) → Turn f b
  edge : 0 < b → state_blocks f < b → kind_of f b ≡ 3 → count_of f b ≡ share (head_edges f) (b - 1 - state_blocks f) → Turn f b

module _ (f : Input) (b : ℕ) where
  pub kind_head : b ≡ 0 → kind_of f b ≡ 1
  kind_head e = rw (eq-eqb b 0 e)

  pub kind_state : (b ≡ 0 → ⊥) → b ≤ state_blocks f → kind_of f b ≡ 2
  kind_state d h = rw (ne_eqb b 0 d, le-leb b (state_blocks f) h)

  pub kind_edge : (b ≡ 0 → ⊥) → state_blocks f < b → kind_of f b ≡ 3
  kind_edge d h = rw (ne_eqb b 0 d, lt-leb b (state_blocks f) h)

  pub turn : Turn f b
  turn =
      ⊎_elim
      (λ (e : b ≡ 0). Turn.head e (kind_head e) (rw (eq-eqb b 0 e)))
      (λ (d : b ≡ 0 → ⊥).
      ⊎_elim
      (λ (h : state_blocks f < b). Turn.edge (omega arith) h (kind_edge d h) (rw (ne_eqb b 0 d, lt-leb b (state_blocks f) h)))
      (λ (h : b ≤ state_blocks f). Turn.state (omega arith) h (kind_state d h) (rw (ne_eqb b 0 d, le-leb b (state_blocks f) h)))
      (below (state_blocks f) b))
      (same b 0)

  -- From the kind to the place and the count.
  pub at_head : kind_of f b ≡ 1 → (b ≡ 0) × (count_of f b ≡ 1)
  at_head e = go turn
    where
      go : Turn f b → (b ≡ 0) × (count_of f b ≡ 1)
      go (Turn.head z k n) = (z, n)
      go (Turn.state p h k n) = absurd (omega arith)
      go (Turn.edge p h k n) = absurd (omega arith)

  pub at_state : kind_of f b ≡ 2 → (0 < b) × (count_of f b ≡ share (head_states f) (b - 1))
  at_state e = go turn
    where
      go : Turn f b → (0 < b) × (count_of f b ≡ share (head_states f) (b - 1))
      go (Turn.head z k n) = absurd (omega arith)
      go (Turn.state p h k n) = (p, n)
      go (Turn.edge p h k n) = absurd (omega arith)

  pub at_edge : (kind_of f b ≡ 1 → ⊥) → (kind_of f b ≡ 2 → ⊥) → (state_blocks f < b) × (count_of f b ≡ share (head_edges f) (b - 1 - state_blocks f))
  at_edge c d = go turn
    where
      go : Turn f b → (state_blocks f < b) × (count_of f b ≡ share (head_edges f) (b - 1 - state_blocks f))
      go (Turn.head z k n) = absurd (c k)
      go (Turn.state p h k n) = absurd (d k)
      go (Turn.edge p h k n) = (h, n)

  pub third : (kind_of f b ≡ 1 → ⊥) → (kind_of f b ≡ 2 → ⊥) → kind_of f b ≡ 3
  third c d = go turn
    where
      go : Turn f b → kind_of f b ≡ 3
      go (Turn.head z k n) = absurd (c k)
      go (Turn.state p h k n) = absurd (d k)
      go (Turn.edge p h k n) = k

  -- A block holds no more than a full one.
  pub count_most : count_of f b ≤ full_block
  count_most = go turn
    where
      go : Turn f b → count_of f b ≤ full_block
      go (Turn.head z k n) = omega arith
      go (Turn.state p h k n) = omega arith
      go (Turn.edge p h k n) = omega arith

  -- There are three kinds.
  pub kind_most : kind_of f b ≤ 3
  kind_most = go turn
    where
      go : Turn f b → kind_of f b ≤ 3
      go (Turn.head z k n) = omega arith
      go (Turn.state p h k n) = omega arith
      go (Turn.edge p h k n) = omega arith
