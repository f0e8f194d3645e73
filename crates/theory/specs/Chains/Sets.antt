-- Sets of states, each written as one number: every set has its number, and one only; so the sets of a chain are there, and are one.
use Rattle.std.specs.Prelude.{ℕ, zero, suc, ◌+◌, ◌*◌, ◌/◌, ◌%◌, ◌^◌, ◌≤◌, ◌<◌, ◌≡◌, refl, ◌↔◌, Bool, true, false}
use Rattle.std.proofs.Common.{sym, ◌∙◌, ⊎_elim, arith}
use Rattle.std.proofs.Math.Nat.{zero-div}
use Rattle.meaning.specs.Number.{only, bit}
use Rattle.meaning.specs.Chain.{Chain, edge_count, from, Goal, PathTo, ToGoal, LiveTo}
use Rattle.meaning.specs.Step.{Sets, RightTo, Right}
use Rattle.theory.specs.Numbers.Sum.{same, below}
use Rattle.theory.specs.Numbers.Bits.{bit_zero, bit_suc, bit_below, bits_same}
use Rattle.theory.specs.Chains.Path.{test, test_law, dec_goal, dec_path_to, dec_live_to}

-- The number whose bits, up to n, are the tests.
unfoldable pub packed : ℕ → (ℕ → Bool) → ℕ
packed zero f = 0
packed (suc n) f = only (f 0) 1 + 2 * packed n (λ i. f (suc i))

only_low : (b : Bool) (t : ℕ) → (only b 1 + 2 * t) % 2 ≡ only b 1
only_low true t = omega arith
only_low false t = omega arith

only_half : (b : Bool) (t : ℕ) → (only b 1 + 2 * t) / 2 ≡ t
only_half true t = omega arith
only_half false t = omega arith

packed_suc : (n : ℕ) (f : ℕ → Bool) (i : ℕ) → bit (packed (suc n) f) (suc i) ≡ bit (packed n (λ j. f (suc j))) i
unfolding packed
packed_suc n f i = bit_suc _ i ∙ rw (only_half (f 0) (packed n (λ j. f (suc j))))

pub packed_bit : (n : ℕ) (f : ℕ → Bool) (i : ℕ) → i < n → bit (packed n f) i ≡ only (f i) 1
unfolding packed
packed_bit zero f i h = absurd (omega arith)
packed_bit (suc n) f zero h = bit_zero _ ∙ only_low (f 0) (packed n (λ j. f (suc j)))
packed_bit (suc n) f (suc i) h = packed_suc n f i ∙ packed_bit n (λ j. f (suc j)) i (omega arith)

pub packed_past : (n : ℕ) (f : ℕ → Bool) (i : ℕ) → n ≤ i → bit (packed n f) i ≡ 0
unfolding packed
packed_past zero f i h = rw (zero-div (2 ^ i))
packed_past (suc n) f zero h = absurd (omega arith)
packed_past (suc n) f (suc i) h = packed_suc n f i ∙ packed_past n (λ j. f (suc j)) i (omega arith)

-- Two numbers of one set are one.
pub set_one : (P : ℕ → Type 0) (s t : ℕ) → ((i : ℕ) → (bit s i ≡ 1) ↔ P i) → ((i : ℕ) → (bit t i ≡ 1) ↔ P i) → s ≡ t
set_one P s t p q =
    bits_same (λ i.
    ⊎_elim
    (λ (e : bit s i ≡ 1). e ∙ sym ((q i).1 ((p i).0 e)))
    (λ (n : bit s i ≡ 1 → ⊥). let m : bit t i ≡ 1 → ⊥ = λ e. n ((p i).1 ((q i).0 e)) in omega arith)
    (same (bit s i) 1))

pub right_one : {c : Chain} {End : ℕ → Type 0} {k k' : Sets} → RightTo c End k → RightTo c End k' → k ≡ k'
right_one {c} {End} {k} {k'} R R' =
    let g : k.good ≡ k'.good = set_one (PathTo c.edges End) k.good k'.good R.good R'.good in
    let l : k.live ≡ k'.live = set_one (LiveTo c End) k.live k'.live R.live R'.live in
    λ i. record { good = g i; live = l i }

-- The number of a set of states below n, by a test of it.
pub packed_set : (n : ℕ) (f : ℕ → Bool) (P : ℕ → Type 0) → ((i : ℕ) → (f i ≡ true) ↔ P i) → ((i : ℕ) → P i → i < n)
    → (i : ℕ) → (bit (packed n f) i ≡ 1) ↔ P i
packed_set n f P law inside i = (
  λ b.
      ⊎_elim
      (λ (h : i < n). (law i).0 (tested (f i) (sym (packed_bit n f i h) ∙ b)))
      (λ (h : n ≤ i). absurd (omega (arith, packed_past n f i h)))
      (below i n),
  λ p. packed_bit n f i (inside i p) ∙ rw ((law i).1 p),
)
  where
    tested : (b : Bool) → only b 1 ≡ 1 → b ≡ true
    tested true e = refl
    tested false e = absurd (omega arith)

module _ (c : Chain) (sources : (e : ℕ) → e < edge_count c.edges → from c.edges e < c.states) where
  -- What has a path to an end is a state, where the ends are.
  module _ (End : ℕ → Type 0) (dec : (i : ℕ) → Dec (End i)) (inside : (i : ℕ) → End i → i < c.states) where
    path_state : (i : ℕ) → PathTo c.edges End i → i < c.states
    path_state i (PathTo.here j g) = inside j g
    path_state i (PathTo.step e l p) = sources e l

    pub right_to_exists : (k : Sets) × RightTo c End k
    right_to_exists =
        let to_end = dec_path_to c.edges End dec in
        let alive = dec_live_to c End dec in (
          record { good = packed c.states (λ i. test (to_end i)); live = packed c.states (λ i. test (alive i)) },
          record {
            good = packed_set c.states (λ i. test (to_end i)) (PathTo c.edges End) (λ i. test_law (to_end i)) path_state;
            live = packed_set c.states (λ i. test (alive i)) (LiveTo c End) (λ i. test_law (alive i)) (λ i l. path_state i l.leads);
          },
        )

-- The ends are the goals.
module _ (c : Chain) (goals : c.goals < 2 ^ c.states) (sources : (e : ℕ) → e < edge_count c.edges → from c.edges e < c.states) where
  inside : (i : ℕ) → Goal c i → i < c.states
  inside i = bit_below c.goals c.states i goals

  -- What has a path to a goal is a state.
  pub goal_state : (i : ℕ) → ToGoal c i → i < c.states
  goal_state = path_state c sources (Goal c) (dec_goal c) inside

  pub right_exists : (k : Sets) × Right c k
  right_exists = right_to_exists c sources (Goal c) (dec_goal c) inside
