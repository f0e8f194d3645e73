-- The counts of a survey: the ones of a set count its states.
use Prim.Native.Nat.{ℕ, zero, suc, ◌+◌, ◌%◌, ◌^◌, ◌<◌}
use Rattle.std.specs.Prelude.{◌≡◌, ◌↔◌, Bool}
use Rattle.std.proofs.Math.Path.{refl}
use Rattle.std.proofs.Common.{ap, subst, ◌∙◌, mod-eq_of_lt, mod-lt, pow_pos}
use Rattle.std.proofs.Math.Logic.{⊎_elim}
use Rattle.std.proofs.Math.Bool.{true, false}
use native.Mathlib.Omega.{arith}
use Rattle.std.proofs.Math.Nat.{mod-one}
use Rattle.std.proofs.lemmas.Nat.{mod-pow-add, ones_cat}
use Rattle.std.specs.Int.Count.{ones, ones_in}
use Rattle.meaning.specs.Number.{sum_to, only, bit}
use Rattle.meaning.specs.Survey.{Count, none, one, skip}
use Rattle.theory.specs.Numbers.Sum.{same, last_or_below}

pub count_one : {P : ℕ → Type 0} {n k k' : ℕ} → Count P n k → Count P n k' → k ≡ k'
count_one none none = refl
count_one (one p a) (one p' a') = ap suc (count_one a a')
count_one (one p a) (skip d a') = absurd (d p)
count_one (skip d a) (one p a') = absurd (d p)
count_one (skip d a) (skip d' a') = count_one a a'

pub count_some : {P : ℕ → Type 0} {n k i : ℕ} → Count P n k → i < n → P i → 0 < k
count_some none h q = absurd (omega arith)
count_some (one p a) h q = omega arith
count_some {P} (skip d a) h q = last_or_below h (λ e. absurd (d (subst P e q))) (λ l. count_some a l q)

module _ (P : ℕ → Type 0) (s : ℕ) (set : (i : ℕ) → (bit s i ≡ 1) ↔ P i) where
  -- The ones below bit n.
  low_step : (n : ℕ) → ones (s % 2 ^ suc n) ≡ ones (bit s n) + ones (s % 2 ^ n)
  low_step n =
      let e : suc n ≡ 1 + n = omega arith in
      ap (λ z. ones (s % 2 ^ z)) e ∙ ap ones (mod-pow-add s 1 n) ∙ ones_cat n (bit s n) (s % 2 ^ n) (mod-lt s (pow_pos n))

  low_ones : (n : ℕ) → Count P n (ones (s % 2 ^ n))
  unfolding ones ones_in
  low_ones zero = rw (mod-one s) none
  low_ones (suc n) =
      ⊎_elim
      (λ (q : bit s n ≡ 1).
      let e : ones (s % 2 ^ suc n) ≡ suc (ones (s % 2 ^ n)) = low_step n ∙ rw q (omega arith) in
      rw e (one ((set n).0 q) (low_ones n)))
      (λ (d : bit s n ≡ 1 → ⊥).
      let q : bit s n ≡ 0 = omega arith in
      let e : ones (s % 2 ^ suc n) ≡ ones (s % 2 ^ n) = low_step n ∙ rw q (omega arith) in
      rw e (skip (λ p. d ((set n).1 p)) (low_ones n)))
      (same (bit s n) 1)

  pub count_ones : (n : ℕ) → s < 2 ^ n → Count P n (ones s)
  count_ones n h = subst (λ z. Count P n (ones z)) (mod-eq_of_lt h) (low_ones n)

-- What a test of the property sums to is its count.
module _ (P : ℕ → Type 0) (f : ℕ → Bool) (law : (i : ℕ) → (f i ≡ true) ↔ P i) where
  pub count_sum : {n k : ℕ} → Count P n k → k ≡ sum_to (λ i. only (f i) 1) n
  unfolding sum_to
  count_sum none = refl
  count_sum (one {n} p a) = rw ((law n).1 p) (omega (arith, count_sum a))
  count_sum (skip {n} {k} d a) = at (count_sum a) (f n) refl
    where
      at : k ≡ sum_to (λ i. only (f i) 1) n → (b : Bool) → f n ≡ b → k ≡ sum_to (λ i. only (f i) 1) n + only b 1
      at rest true e = absurd (d ((law n).0 e))
      at rest false e = omega (arith, rest)
