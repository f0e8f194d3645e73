-- Comparison: where every state leads out, values that each row puts below others are below them; one row may be left out if its value is.
use Rattle.std.specs.Prelude.{ℕ, zero, suc, ◌+◌, ◌*◌, ◌≤◌, ◌<◌, ◌≡◌, refl, eqb}
use Rattle.std.proofs.Common.{⊎_elim, mul-le-mul_left, eq-eqb, ne_eqb}
use native.Mathlib.Omega.{arith}
use Rattle.std.proofs.Math.Nat.{le_of_mul-le-mul_left}
use Rattle.meaning.specs.Number.{sum_to, choose}
use Rattle.theory.specs.Numbers.Sum.{same, last_or_below, sum_ext, sum_le, sum_zero}
use Rattle.theory.specs.Figures.System.{System, total, LeadsOut, leaves, passes, without, loop_less, leads_on, sum_mix, sum_mix_by}

-- What the row of i comes to where state j is worth x j.
abbrev pub summed : System → ℕ → (ℕ → ℕ) → ℕ → ℕ
summed s n x i = sum_to (λ j. s.a i j * x j) n

-- The row of i puts p below q.
abbrev pub Puts : System → ℕ → (ℕ → ℕ) → (ℕ → ℕ) → ℕ → Type 0
Puts s n p q i = total s n i * p i + summed s n q i ≤ total s n i * q i + summed s n p i

-- A row that puts p below q, with the weight k to another that does too.
mix_puts : (W T k p q p' q' P Q P' Q' : ℕ) → W * p + (Q + k * q') ≤ W * q + (P + k * p') → T * p' + Q' ≤ T * q' + P'
    → T * W * p + (T * Q + k * Q') ≤ T * W * q + (T * P + k * P')
mix_puts W T k p q p' q' P Q P' Q' h l = omega (arith, mul-le-mul_left T h, mul-le-mul_left k l)

module _ (s : System) (n : ℕ) (p q : ℕ → ℕ) where
  -- The row of n itself, less its loop.
  last_puts : Puts s (suc n) p q n → total s n n * p n + summed s n q n ≤ total s n n * q n + summed s n p n
  unfolding sum_to
  last_puts h = omega arith

  without_total : (i : ℕ) → total (without s n) n i ≡ total s n n * total s (suc n) i
  unfolding sum_to
  without_total i = rw (sum_mix (total s n n) (s.a i n) (s.a i) (s.a n) n) (omega arith)

  without_puts : Puts s (suc n) p q n → (i : ℕ) → Puts s (suc n) p q i → Puts (without s n) n p q i
  unfolding sum_to
  without_puts l i h =
      rw (
        without_total i,
        sum_mix_by (total s n n) (s.a i n) (s.a i) (s.a n) p n,
        sum_mix_by (total s n n) (s.a i n) (s.a i) (s.a n) q n,
      )
      (mix_puts (total s (suc n) i) _ (s.a i n) (p i) (q i) (p n) (q n) _ _ _ _ h (last_puts l))

pub compared : (n : ℕ) (s : System) → ((i : ℕ) → i < n → LeadsOut s n i) → (p q : ℕ → ℕ) → ((i : ℕ) → i < n → Puts s n p q i)
    → (i : ℕ) → i < n → p i ≤ q i
compared zero s l p q h i k = omega arith
compared (suc n) s l p q h i k =
    let D : 0 < total s n n = loop_less s n (l n (omega arith)) refl in
    let last = h n (omega arith) in
    let below : (i : ℕ) → i < n → p i ≤ q i =
    compared n (without s n) (λ i k. (leads_on s n D (l i (omega arith))).0) p q
    (λ i k. without_puts s n p q last i (h i (omega arith))) in
    let sums : summed s n p n ≤ summed s n q n = sum_le _ _ n (λ j k. mul-le-mul_left (s.a n j) (below j k)) in
    last_or_below k
    (λ (e : i ≡ n). rw e (le_of_mul-le-mul_left {k = total s n n} (omega (arith, last_puts s n p q last)) D))
    (below i)

-- The system in which state m has weight 1 that leaves, and no other; every other state has given weight to Goal.
abbrev pub pinned : System → ℕ → (ℕ → ℕ) → System
pinned s m g =
    record {
      a = λ i j. choose (eqb i m) 0 (s.a i j);
      out = λ i. choose (eqb i m) 1 (s.out i);
      g = λ i. choose (eqb i m) 0 (g i);
    }

module _ (s : System) (n m : ℕ) (g : ℕ → ℕ) where
  pub pinned_leads : {i : ℕ} → LeadsOut s n i → LeadsOut (pinned s m g) n i
  pinned_leads {i} (leaves o) =
      leaves {i = i} (⊎_elim (λ (e : i ≡ m). rw (eq-eqb i m e) (omega arith)) (λ (d : i ≡ m → ⊥). rw (ne_eqb i m d) o) (same i m))
  pinned_leads {i} (passes j h o l) =
      ⊎_elim
      (λ (e : i ≡ m). leaves {i = i} (rw (eq-eqb i m e) (omega arith)))
      (λ (d : i ≡ m → ⊥). passes {i = i} j h (rw (ne_eqb i m d) o) (pinned_leads l))
      (same i m)

  -- The row of m, and that of another.
  pub pinned_sum : (x : ℕ → ℕ) → summed (pinned s m g) n x m ≡ 0
  pinned_sum x = sum_zero _ n (λ j h. rw (eq-eqb m m refl) (omega arith))

  pub pinned_total : total (pinned s m g) n m ≡ 1
  pinned_total =
      let z : sum_to ((pinned s m g).a m) n ≡ 0 = sum_zero _ n (λ j h. rw (eq-eqb m m refl)) in
      rw (z, eq-eqb m m refl)

  pub pinned_sum_off : (x : ℕ → ℕ) (i : ℕ) → (i ≡ m → ⊥) → summed (pinned s m g) n x i ≡ summed s n x i
  pinned_sum_off x i d = sum_ext _ _ n (λ j h. rw (ne_eqb i m d))

  pub pinned_total_off : (i : ℕ) → (i ≡ m → ⊥) → total (pinned s m g) n i ≡ total s n i
  pinned_total_off i d =
      let z : sum_to ((pinned s m g).a i) n ≡ sum_to (s.a i) n = sum_ext _ _ n (λ j h. rw (ne_eqb i m d)) in
      rw (z, ne_eqb i m d)

module _ (n : ℕ) (s : System) (leads : (i : ℕ) → i < n → LeadsOut s n i) (m : ℕ) (p q : ℕ → ℕ) where
  pub compared_off : p m ≤ q m → ((i : ℕ) → i < n → (i ≡ m → ⊥) → Puts s n p q i) → (i : ℕ) → i < n → p i ≤ q i
  compared_off own h =
      compared n (pinned s m s.g) (λ i k. pinned_leads s n m s.g (leads i k)) p q
      (λ i k.
      ⊎_elim
      (λ (e : i ≡ m).
      rw (e, pinned_total s n m s.g, pinned_sum s n m s.g p, pinned_sum s n m s.g q) (omega arith))
      (λ (d : i ≡ m → ⊥).
      rw (pinned_total_off s n m s.g i d, pinned_sum_off s n m s.g p i d, pinned_sum_off s n m s.g q i d) (h i k d))
      (same i m))
