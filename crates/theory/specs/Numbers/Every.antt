-- A list of n different numbers below n holds each of them, and a sum over them goes along it.
use Rattle.std.specs.Prelude.{ℕ, ◌≤◌, ◌<◌, ◌≡◌, refl, Bool, true, false, eqb}
use Rattle.std.proofs.Math.Path.{sym}
use Rattle.std.proofs.Common.{◌∙◌, eq-eqb, ne_eqb, eqb-true}
use Rattle.std.proofs.Math.Logic.{⊎_elim}
use native.Mathlib.Omega.{arith}
use Rattle.meaning.specs.Number.{sum_to, only}
use Rattle.theory.specs.Numbers.Sum.{same, below, sum_ext, sum_tight, sum_swap, sum_one, sum_alone, sum_find}

-- Where no number of the list stands before, no two places have one number.
pub apart_once : (n : ℕ) (f : ℕ → ℕ) → ((p : ℕ) → p < n → (q : ℕ) → q < p → f q ≡ f p → ⊥) → (p q : ℕ) → p < n → q < n → f p ≡ f q → p ≡ q
apart_once n f new p q h k e =
    ⊎_elim
    (λ (a : p < q). absurd (new q k p a e))
    (λ (a : q ≤ p).
    ⊎_elim
    (λ (b : q < p). absurd (new p h q b (sym e)))
    (λ (b : p ≤ q). omega arith)
    (below q p))
    (below p q)

module _ (n : ℕ) (f : ℕ → ℕ) (inside : (p : ℕ) → p < n → f p < n) (once : (p q : ℕ) → p < n → q < n → f p ≡ f q → p ≡ q) where
  count : ℕ → ℕ
  count i = sum_to (λ p. only (eqb (f p) i) 1) n

  hit : (i p : ℕ) → 0 < only (eqb (f p) i) 1 → f p ≡ i
  hit i p h = go (eqb (f p) i) refl h
    where
      go : (b : Bool) → eqb (f p) i ≡ b → 0 < only b 1 → f p ≡ i
      go true e h = eqb-true (f p) i e
      go false e h = absurd (omega arith)

  count_small : (i : ℕ) → count i ≤ 1
  unfolding count
  count_small i =
      ⊎_elim
      (λ (e : count i ≡ 0). omega arith)
      (λ (d : count i ≡ 0 → ⊥).
      let w = sum_find (λ p. only (eqb (f p) i) 1) n (omega arith) in
      let h : f w.0 ≡ i = hit i w.0 w.2 in
      let a =
      sum_alone (λ p. only (eqb (f p) i) 1) n w.0 w.1
      (λ p l k. rw (ne_eqb (f p) i (λ e. k (once p w.0 l w.1 (e ∙ sym h))))) in
      omega (arith, rw (eq-eqb (f w.0) i h) at a))
      (same (count i) 0)

  count_all : sum_to (λ _. 1) n ≤ sum_to count n
  unfolding count
  count_all =
      omega (
        arith,
        sum_swap (λ i p. only (eqb (f p) i) 1) n n,
        sum_ext (λ p. sum_to (λ i. only (eqb (f p) i) 1) n) (λ _. 1) n (λ p h. sum_one (λ _. 1) n (f p) (inside p h)),
      )

  pub holds_every : (i : ℕ) → i < n → (p : ℕ) × (p < n) × (f p ≡ i)
  unfolding count
  holds_every i h =
      let e : count i ≡ 1 = sum_tight count (λ _. 1) n (λ i _. count_small i) count_all i h in
      let w = sum_find (λ p. only (eqb (f p) i) 1) n (omega arith) in
      (w.0, w.1, hit i w.0 w.2)

  -- So a sum over all of them is a sum along the list.
  pub sum_every : (g : ℕ → ℕ) → sum_to g n ≡ sum_to (λ p. g (f p)) n
  sum_every g =
      sum_ext g (λ i. sum_to (λ p. only (eqb (f p) i) (g i)) n) n
      (λ i h.
      let w = holds_every i h in
      sym
      (sum_alone (λ p. only (eqb (f p) i) (g i)) n w.0 w.1
      (λ p l d. rw (ne_eqb (f p) i (λ e. d (once p w.0 l w.1 (e ∙ sym w.2)))))
      ∙ rw (eq-eqb (f w.0) i w.2)))
      ∙ sum_swap (λ i p. only (eqb (f p) i) (g i)) n n
      ∙ sum_ext _ _ n (λ p h. sum_one g n (f p) (inside p h))
