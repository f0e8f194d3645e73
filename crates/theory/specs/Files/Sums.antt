-- What Fletcher's two sums see of a change: bytes that are equal modulo m count alike; one byte, and a run of zeros filled with FF, modulo 251.
use Prim.Native.Nat.{ℕ, zero, suc, ◌+◌, ◌*◌, ◌-◌, ◌/◌, ◌%◌, ◌≤◌, ◌<◌, min}
use Rattle.std.specs.Prelude.{◌≡◌, ◌⊎◌, eqb}
use Rattle.std.proofs.Math.Path.{refl, sym, ap, ap₂}
use Rattle.std.proofs.Common.{◌∙◌, inl, inr, le_refl, mod-eq_of_lt, add-zero, eq-eqb, ne_eqb}
use Rattle.std.proofs.Math.Logic.{⊎_elim}
use Rattle.std.proofs.Math.Nat.{mod-add-mod, add-mod, add-mul-mod_self_left}
use native.Mathlib.Omega.{arith}
use Rattle.meaning.specs.Number.{sum_to, choose}
use Rattle.meaning.specs.Block.{first_sum, second_sum}
use Rattle.theory.specs.Numbers.Sum.{same, below, sum_ext, sum_zero, sum_next, sum_hole}

-- Bytes that are equal modulo m count alike.
module _ (m s : ℕ) (f g : ℕ → ℕ) where
  pub first_like : (n : ℕ) → ((i : ℕ) → i < n → f i % m ≡ g i % m) → first_sum m s f n ≡ first_sum m s g n
  unfolding first_sum
  first_like zero h = refl
  first_like (suc n) h =
      add-mod (first_sum m s f n) (f n) m
      ∙ ap₂ (λ x y. (x % m + y) % m) (first_like n (λ i l. h i (omega arith))) (h n (omega arith))
      ∙ sym (add-mod (first_sum m s g n) (g n) m)

  pub second_like : (n : ℕ) → ((i : ℕ) → i < n → f i % m ≡ g i % m) → second_sum m s f n ≡ second_sum m s g n
  unfolding second_sum
  second_like zero h = refl
  second_like (suc n) h = ap₂ (λ x y. (x + y) % m) (second_like n (λ i l. h i (omega arith))) (first_like (suc n) h)

-- Both sums are remainders of plain sums.
abbrev plain : ℕ → (ℕ → ℕ) → ℕ → ℕ
plain s f n = s + sum_to f n

abbrev twice : ℕ → (ℕ → ℕ) → ℕ → ℕ
twice s f n = plain s (λ i. plain s f (suc i)) n

module _ {m s : ℕ} (small : s < m) (f : ℕ → ℕ) where
  first_plain : (n : ℕ) → first_sum m s f n ≡ plain s f n % m
  unfolding first_sum sum_to
  first_plain zero = sym (mod-eq_of_lt small) ∙ ap (λ z. z % m) (sym (add-zero s))
  first_plain (suc n) =
      ap (λ z. (z + f n) % m) (first_plain n) ∙ mod-add-mod (plain s f n) m (f n) ∙ ap (λ z. z % m) (omega arith)

  second_plain : (n : ℕ) → second_sum m s f n ≡ twice s f n % m
  unfolding second_sum sum_to
  second_plain zero = sym (mod-eq_of_lt small) ∙ ap (λ z. z % m) (sym (add-zero s))
  second_plain (suc n) =
      ap₂ (λ x y. (x + y) % m) (second_plain n) (first_plain (suc n))
      ∙ sym (add-mod (twice s f n) (plain s f (suc n)) m)
      ∙ ap (λ z. z % m) (omega arith)

-- What is equal modulo 251 from 1 on.
begun : 1 < 251
begun = omega arith

-- Two rows of bytes that differ at j alone.
module _ (f g : ℕ → ℕ) (j : ℕ) (other : (i : ℕ) → (i ≡ j → ⊥) → f i ≡ g i) where
  exchanged : (n : ℕ) → j < n → sum_to f n + g j ≡ sum_to g n + f j
  exchanged n h =
      let e : sum_to (λ i. choose (eqb i j) 0 (f i)) n ≡ sum_to (λ i. choose (eqb i j) 0 (g i)) n =
      sum_ext _ _ n (λ i l.
      ⊎_elim (λ (p : i ≡ j). rw (eq-eqb i j p)) (λ (d : i ≡ j → ⊥). rw (ne_eqb i j d) (other i d)) (same i j)) in
      omega (arith, sum_hole f n j h, sum_hole g n j h)

  -- The first sum sees the change, unless the two values differ by exactly 251.
  pub byte_seen : (n : ℕ) → j < n → f j < 256 → g j < 256 → first_sum 251 1 f n ≡ first_sum 251 1 g n
      → (f j ≡ g j) ⊎ (f j ≡ g j + 251) ⊎ (g j ≡ f j + 251)
  byte_seen n h a b e =
      let x = exchanged n h in
      let y : plain 1 f n % 251 ≡ plain 1 g n % 251 = sym (first_plain begun f n) ∙ e ∙ first_plain begun g n in
      ⊎_elim
      (λ (l : f j < g j). inr (inr (omega arith)))
      (λ (l : g j ≤ f j). ⊎_elim (λ (p : f j ≡ g j). inl p) (λ (d : f j ≡ g j → ⊥). inr (inl (omega arith))) (same (f j) (g j)))
      (below (f j) (g j))

-- 255 is 4 modulo 251, and 63 times 4 is 1.
fourfold : (l x : ℕ) → 0 < l → l ≤ 510 → x % 251 ≡ (x + 255 * l) % 251 → (l ≡ 251) ⊎ (l ≡ 502)
fourfold l x some most e =
    let a = x / 251 in
    let b = (x + 255 * l) / 251 in
    let w = 63 * (b - a - l) - l in
    let q : l ≡ 251 * w = omega arith in
    let few : w < 3 = omega arith in
    ⊎_elim (λ (z : w ≡ 1). inl (omega arith)) (λ (d : w ≡ 1 → ⊥). let z : w ≡ 2 = omega arith in inr (omega arith)) (same w 1)

-- A run of so many zeros from place k on is filled with FF.
pub record Filled (f g : ℕ → ℕ) (k long : ℕ) : Type 0 where
  pub zeros : (i : ℕ) → k ≤ i → i < k + long → f i ≡ 0
  pub ones : (i : ℕ) → k ≤ i → i < k + long → g i ≡ 255
  pub others : (i : ℕ) → (i < k) ⊎ (k + long ≤ i) → g i ≡ f i

-- How much of the run lies before place n.
abbrev reached : ℕ → ℕ → ℕ → ℕ
reached k long n = min n (k + long) - k

module _ {f g : ℕ → ℕ} {k long : ℕ} (filled : Filled f g k long) where
  run_first : (n : ℕ) → sum_to g n ≡ sum_to f n + 255 * reached k long n
  unfolding sum_to
  run_first zero = omega arith
  run_first (suc n) =
      let a = run_first n in
      ⊎_elim
      (λ (l : n < k). omega (arith, filled.others n (inl l)))
      (λ (l : k ≤ n).
      ⊎_elim
      (λ (h : n < k + long). omega (arith, filled.zeros n l h, filled.ones n l h))
      (λ (h : k + long ≤ n). omega (arith, filled.others n (inr h)))
      (below n (k + long)))
      (below n k)

  run_second : (n : ℕ) → sum_to (λ i. plain 1 g (suc i)) n ≡ sum_to (λ i. plain 1 f (suc i)) n + 255 * sum_to (λ i. reached k long (suc i)) n
  unfolding sum_to
  run_second zero = omega arith
  run_second (suc n) = let a = run_second n in let b = run_first (suc n) in omega arith

  -- The first sum sees the run, unless its length is 251 or 502.
  pub run_seen : (n : ℕ) → k + long ≤ n → n ≤ 510 → 0 < long → first_sum 251 1 f n ≡ first_sum 251 1 g n → (long ≡ 251) ⊎ (long ≡ 502)
  run_seen n h most some e =
      let x = run_first n in
      let y : plain 1 f n % 251 ≡ plain 1 g n % 251 = sym (first_plain begun f n) ∙ e ∙ first_plain begun g n in
      fourfold long (plain 1 f n) some (omega arith) (y ∙ ap (λ z. z % 251) (omega arith))

  -- What the second sum takes of the run: more and more while it lasts, then all of it at each place.
  weights : ℕ → ℕ
  unfolding sum_to
  weights n = sum_to (λ i. reached k long (suc i)) n

  weights_before : (n : ℕ) → n ≤ k → weights n ≡ 0
  unfolding weights
  weights_before n h = sum_zero _ n (λ i l. omega arith)

  weights_within : (r : ℕ) → r ≤ long → 2 * weights (k + r) ≡ r * (r + 1)
  unfolding weights
  weights_within zero h = let a = weights_before (k + 0) (omega arith) in omega arith
  weights_within (suc r) h =
      let a = weights_within r (omega arith) in
      let b = sum_next (λ i. reached k long (suc i)) (k + r) (k + suc r) (omega arith) in
      omega arith

  weights_past : (r : ℕ) → weights (k + long + r) ≡ weights (k + long) + long * r
  unfolding weights
  weights_past zero = let e : k + long + 0 ≡ k + long = omega arith in rw e (omega arith)
  weights_past (suc r) =
      let a = weights_past r in
      let b = sum_next (λ i. reached k long (suc i)) (k + long + r) (k + long + suc r) (omega arith) in
      omega arith

  whole_runs : (n : ℕ) → k + long ≤ n → (long ≡ 251) ⊎ (long ≡ 502) → (p : ℕ) × (q : ℕ) × (long ≡ 251 * p) × (weights n ≡ 251 * q)
  whole_runs n h c =
      let r = n - (k + long) in
      let e : n ≡ k + long + r = omega arith in
      let w = weights_within long (le_refl long) in
      let p = ap weights e ∙ weights_past r in
      ⊎_elim
      (λ (l : long ≡ 251). (1, 126 + r, omega arith, omega (arith, ap (λ z. z * r) l, ap (λ z. z * (z + 1)) l)))
      (λ (l : long ≡ 502). (2, 503 + 2 * r, omega arith, omega (arith, ap (λ z. z * r) l, ap (λ z. z * (z + 1)) l)))
      c

  -- Those two lengths leave both sums as they were.
  pub run_unseen : (n : ℕ) → k + long ≤ n → (long ≡ 251) ⊎ (long ≡ 502)
      → (first_sum 251 1 f n ≡ first_sum 251 1 g n) × (second_sum 251 1 f n ≡ second_sum 251 1 g n)
  unfolding weights
  run_unseen n h c =
      let w = whole_runs n h c in
      let a = run_first n in
      let b = run_second n in
      let first : plain 1 g n ≡ plain 1 f n + 251 * (255 * w.0) = omega (arith, w.2) in
      let second : twice 1 g n ≡ twice 1 f n + 251 * (255 * w.1) = omega (arith, w.3) in (
        first_plain begun f n ∙ sym (add-mul-mod_self_left (plain 1 f n) 251 (255 * w.0)) ∙ ap (λ z. z % 251) (sym first) ∙ sym (first_plain begun g n),
        second_plain begun f n ∙ sym (add-mul-mod_self_left (twice 1 f n) 251 (255 * w.1)) ∙ ap (λ z. z % 251) (sym second) ∙ sym (second_plain begun g n),
      )
