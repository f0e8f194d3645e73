-- Lists of words that stand for weights: their zeros, the row of a removed state, and its D.
use Rattle.std.proofs.Common.{◌≡◌, ℕ, ◌+◌, ◌*◌, ◌^◌, ◌<◌, ◌≤◌, eqb, List, length, get_or, set, sym, ap, ◌∙◌, ⊎_elim, zero-mul, arith, length-set, get_or-set_other, get_or-set_same, eq-eqb, ne_eqb}
use Rattle.meaning.specs.Number.{choose}
use Rattle.meaning.specs.Near.{digits, top, cut_sum}
use Rattle.theory.specs.Numbers.Sum.{same, below}
use Rattle.theory.specs.Numbers.Binary.{digits_none, digits_least, zeros_add}
use Rattle.theory.specs.Numbers.Tops.{top_digits}
use Rattle.near.specs.Word.{word, value}
use Rattle.near.specs.Row.{value_at, least_exponent, settled_words}
use Rattle.near.specs.Step.{sum_of}
use Rattle.near.specs.Table.{Stands}
use Rattle.near.proofs.Words.{value_none, word_none, value_word, word_some}
use Rattle.near.proofs.Scaled.{cut_find, alike_top, alike_sum, alike_none, alike_some, alike_digits}
use Rattle.near.proofs.Rows.{lowered_length}
use Rattle.near.proofs.Settled.{settled_proper, settled_back, settled_short}

module _ {m : ℕ} {g : ℕ → ℕ} {u : List ℕ} {most : ℕ} (S : Stands m g u most) (j : ℕ) (h : j < m) where
  pub value_zero : g j ≡ 0 → value_at u j ≡ 0
  value_zero e = alike_none S.down S.up (value_at u j) (g j) (S.alike j h) e

  -- A word is above 0 exactly where its weight is.
  pub word_zero : g j ≡ 0 → get_or u j 0 ≡ 0
  word_zero e = S.proper j h ∙ ap word (value_zero e) ∙ word_none

  pub word_above : most ≤ 2 ^ 20 → 0 < g j → 0 < get_or u j 0
  word_above small o =
      rw (S.proper j h) (word_some (value_at u j) (omega (arith, S.few j h)) (alike_some S.down S.up (value_at u j) (g j) (S.alike j h) o))

  -- The powers of two lie no further apart than the digits of a word.
  pub raised : 0 < g j → (t : ℕ) → digits (value_at u j) ≤ t → S.up < t + S.down
  raised o t l = omega (arith, alike_digits S.down S.up (value_at u j) (g j) (S.alike j h) o, digits_least (g j) 0 o)

-- D of words, where their powers of two lie at most t apart.
module _ {m : ℕ} {g : ℕ → ℕ} {u : List ℕ} {most : ℕ} (S : Stands m g u most) (low : digits (top (cut_sum g m)) ≤ 2111) (t : ℕ)
    (small : t ≤ 2 ^ 20) (apart : (j : ℕ) → j < m → 0 < g j → S.up < t + S.down)
  where
    abbrev X : ℕ
    X = cut_sum (value_at u) m

    sums : X * 2 ^ S.down ≡ cut_sum g m * 2 ^ S.up
    sums = alike_sum S.down S.up (value_at u) g m S.alike

    sum_short : digits X ≤ 2111 + t
    sum_short =
        ⊎_elim
        (λ (o : 0 < cut_sum g m).
        let z = cut_find g m o in
        omega (arith, alike_digits S.down S.up X (cut_sum g m) sums o, apart z.0 z.1 z.2, low, top_digits (cut_sum g m)))
        (λ (o : cut_sum g m ≤ 0). rw (alike_none S.down S.up X (cut_sum g m) sums (omega arith)) (omega (arith, digits_none)))
        (below 0 (cut_sum g m))

    sum_value : value (sum_of u) ≡ top X
    sum_value = ap (λ z. value (word (cut_sum (value_at u) z))) S.wide ∙ value_word X (omega (arith, sum_short))

    pub sum_alike : value (sum_of u) * 2 ^ S.down ≡ top (cut_sum g m) * 2 ^ S.up
    sum_alike = ap (λ z. z * 2 ^ S.down) sum_value ∙ alike_top S.down S.up X (cut_sum g m) sums

    pub sum_few : digits (value (sum_of u)) ≤ 2111 + t
    sum_few = omega (arith, ap digits sum_value, top_digits X, sum_short)

-- The row of a state that is removed: without its own weight, and then settled.
module _ (m s : ℕ) (weight : ℕ → ℕ) (inside : s < m) (u : List ℕ) (most : ℕ) (small : most ≤ 2 ^ 20) (S : Stands m weight u most) where
  abbrev g : ℕ → ℕ
  g j = choose (eqb j s) 0 (weight j)

  abbrev raw : List ℕ
  raw = set u s 0

  raw_length : length raw ≡ m
  raw_length = length-set u s 0 ∙ S.wide

  -- What holds of 0 and of the other words holds of each.
  raw_by : (P : ℕ → ℕ → Type 0) → P 0 0 → ((j : ℕ) → j < m → P (get_or u j 0) (weight j)) → (j : ℕ) → j < m → P (get_or raw j 0) (g j)
  raw_by P z o j h =
      ⊎_elim (λ (e : j ≡ s). rw (eq-eqb j s e, ap (λ i. get_or raw i 0) e ∙ get_or-set_same u s 0 0 (omega (arith, S.wide))) z)
      (λ (e : j ≡ s → ⊥). rw (ne_eqb j s e, get_or-set_other u s j 0 0 e) (o j h))
      (same j s)

  pub pivot_stands : Stands m g raw most
  pivot_stands =
      record {
        wide = raw_length;
        down = S.down;
        up = S.up;
        alike =
            raw_by (λ w x. value w * 2 ^ S.down ≡ x * 2 ^ S.up)
            (ap (λ z. z * 2 ^ S.down) value_none ∙ zero-mul (2 ^ S.down) ∙ sym (zero-mul (2 ^ S.up)))
            S.alike;
        proper = raw_by (λ w x. w ≡ word (value w)) (sym (ap word value_none ∙ word_none)) S.proper;
        few = raw_by (λ w x. digits (value w) ≤ most) (rw value_none (omega (arith, digits_none))) S.few;
      }

  pub pivot_sum : digits (top (cut_sum g m)) ≤ 2111 → value (sum_of raw) * 2 ^ S.down ≡ top (cut_sum g m) * 2 ^ S.up
  unfolding pivot_stands
  pivot_sum low =
      let P = pivot_stands in
      sum_alike P low most small (λ j h o. raised P j h o most (P.few j h))

  abbrev q : List ℕ
  q = settled_words raw

  abbrev k : ℕ
  k = least_exponent (λ j. get_or raw j 0) (length raw)

  settled_length : length q ≡ m
  settled_length = lowered_length k raw ∙ raw_length

  settled_alike : (j : ℕ) → j < m → value_at q j * 2 ^ (k + S.down) ≡ g j * 2 ^ S.up
  unfolding pivot_stands
  settled_alike j h =
      sym (zeros_add (value_at q j) k S.down)
      ∙ ap (λ z. z * 2 ^ S.down) (settled_back raw m raw_length most small pivot_stands.proper pivot_stands.few j h)
      ∙ pivot_stands.alike j h

  settled_apart : (j : ℕ) → j < m → 0 < g j → S.up < 31 + (k + S.down)
  unfolding pivot_stands
  settled_apart j h o =
      let z = settled_short raw m raw_length most small pivot_stands.proper pivot_stands.few j h (alike_some S.down S.up (value_at raw j) (g j) (pivot_stands.alike j h) o) in
      let some : 0 < g z.0 = ⊎_elim (λ (l : 0 < g z.0). l)
      (λ (l : g z.0 ≤ 0). absurd (omega (arith, z.2, value_zero pivot_stands z.0 z.1 (omega arith))))
      (below 0 (g z.0)) in
      omega (
        arith,
        alike_digits (k + S.down) S.up (value_at q z.0) (g z.0) (settled_alike z.0 z.1) some,
        digits_least (g z.0) 0 some,
        z.3,
      )

  module _ (fit : (j : ℕ) → j < m → digits (weight j) ≤ 2111) where
    settled_few : (j : ℕ) → j < m → digits (value_at q j) ≤ 2142
    settled_few j h =
        ⊎_elim
        (λ (o : 0 < g j).
        let l : digits (g j) ≤ 2111 = raw_by (λ _ x. digits x ≤ 2111) (omega (arith, digits_none)) fit j h in
        omega (arith, alike_digits (k + S.down) S.up (value_at q j) (g j) (settled_alike j h) o, settled_apart j h o, l))
        (λ (o : g j ≤ 0). rw (alike_none (k + S.down) S.up (value_at q j) (g j) (settled_alike j h) (omega arith)) (omega (arith, digits_none)))
        (below 0 (g j))

    pub settled_stands : Stands m g q 2142
    settled_stands =
        record {
          wide = settled_length;
          down = k + S.down;
          up = S.up;
          alike = settled_alike;
          proper = settled_proper raw m raw_length most small pivot_stands.proper pivot_stands.few;
          few = settled_few;
        }

    module _ (low : digits (top (cut_sum g m)) ≤ 2111) where
      pub settled_sum : value (sum_of q) * 2 ^ settled_stands.down ≡ top (cut_sum g m) * 2 ^ settled_stands.up
      unfolding settled_stands
      settled_sum = sum_alike settled_stands low 31 (omega arith) settled_apart

      pub settled_sum_few : digits (value (sum_of q)) ≤ 2142
      unfolding settled_stands
      settled_sum_few = sum_few settled_stands low 31 (omega arith) settled_apart
