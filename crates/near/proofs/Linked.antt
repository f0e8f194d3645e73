-- A row that is made anew stands for the definition's.
use Rattle.std.proofs.Common.{◌≡◌, ℕ, suc, ◌+◌, ◌*◌, ◌^◌, ◌<◌, ◌≤◌, eqb, List, length, get_or, set, sym, ap, ◌∙◌, ap₂, ⊎_elim, le_trans, mul_comm, mul-zero, zero-mul, arith, length-set, get_or-set_other, get_or-set_same, pow_mono, pow-add, eq-eqb, ne_eqb}
use lib.Pow.{add-lt-pow}
use Rattle.meaning.specs.Number.{choose}
use Rattle.meaning.specs.Row.{Row, cell}
use Rattle.meaning.specs.Chain.{M, Chain, denominator}
use Rattle.meaning.specs.Step.{row, Sets, combined}
use Rattle.meaning.specs.Near.{digits, top, longest, near_outside, least_spare, blended, lowered, near_stage}
use Rattle.theory.specs.Numbers.Sum.{same}
use Rattle.theory.specs.Numbers.Binary.{has_digits, digits_none, digits_most, product_digits, zeros_add}
use Rattle.theory.specs.Numbers.Tops.{top_digits}
use Rattle.theory.specs.Rows.Relation.{combined_cell, combined_own}
use Rattle.theory.specs.Stages.Blended as new
use Rattle.theory.specs.Stages.Last.{Prepared}
use Rattle.theory.proofs.Stages.Nearly.{nearly_stage}
use Rattle.theory.proofs.Stages.NearDigits.{near_digits, near_outside_digits}
use Rattle.near.specs.Word.{word, value}
use Rattle.near.specs.Row.{value_at, settled_words, replaced_words}
use Rattle.near.specs.Step.{sum_of}
use Rattle.near.specs.Table.{Stands}
use Rattle.near.proofs.Words.{value_none, value_word, word_top}
use Rattle.near.proofs.Rows.{blended_at, replaced_length}
use Rattle.near.proofs.Scaled.{alike_top}
use Rattle.near.proofs.Standing.{value_zero, settled_stands, settled_sum, settled_sum_few}

-- A row of so many weights, of at most 2111 digits each.
pub record Wordy (m : ℕ) (r : Row) : Type 0 where
  pub wide : length r ≡ m
  pub fit : (j : ℕ) → j < m → digits (cell r j) ≤ 2111

-- The sum of two products of numbers that are others but for powers of two.
mixed : (x d w p X D W P A B C E : ℕ) → x * A ≡ X * B → w * A ≡ W * B → d * C ≡ D * E → p * C ≡ P * E → (x * d + w * p) * (A * C) ≡ (X * D + W * P) * (B * E)
mixed x d w p X D W P A B C E e f g h =
    let a : x * A * (d * C) ≡ X * B * (D * E) = ap₂ (λ y z. y * z) e g in
    let b : w * A * (p * C) ≡ W * B * (P * E) = ap₂ (λ y z. y * z) f h in
    omega (arith, a, b)

mixed_digits : (m k a b c d : ℕ) → digits a ≤ m → digits b ≤ k → digits c ≤ m → digits d ≤ k → digits (a * b + c * d) ≤ suc (m + k)
mixed_digits m k a b c d ha hb hc hd =
    let p : 2 ^ digits (a * b) ≤ 2 ^ (m + k) = pow_mono (omega (arith, product_digits a b)) in
    let q : 2 ^ digits (c * d) ≤ 2 ^ (m + k) = pow_mono (omega (arith, product_digits c d)) in
    digits_most (a * b + c * d) (suc (m + k))
    (add-lt-pow {a = a * b} {b = c * d} (m + k) (le_trans (has_digits (a * b)).0 p) (le_trans (has_digits (c * d)).0 q))

module _ (n s : ℕ) (p r : Row) (inside : s < n) (P : Wordy (n + 4) p) (R : Wordy (n + 4) r) (low : digits (near_outside n s p) ≤ 2111)
    (us ws : List ℕ) (most : ℕ) (small : most ≤ 2 ^ 19)
    (U : Stands (n + 4) (cell p) us most) (W : Stands (n + 4) (cell r) ws most)
  where
    abbrev D : ℕ
    D = near_outside n s p

    -- The row of s as the code uses it, and its D.
    abbrev q : List ℕ
    q = settled_words (set us s 0)

    abbrev d : ℕ
    d = sum_of q

    abbrev Q : Stands (n + 4) (λ j. choose (eqb j s) 0 (cell p j)) q 2142
    Q = settled_stands (n + 4) s (cell p) (omega arith) us most (omega arith) U P.fit

    D-alike : value d * 2 ^ Q.down ≡ D * 2 ^ Q.up
    unfolding near_outside
    D-alike = settled_sum (n + 4) s (cell p) (omega arith) us most (omega arith) U P.fit low

    D-few : digits (value d) ≤ 2142
    unfolding near_outside
    D-few = settled_sum_few (n + 4) s (cell p) (omega arith) us most (omega arith) U P.fit low

    abbrev fresh : List ℕ
    fresh = replaced_words s d q ws

    abbrev mix : Row
    mix = combined s D p r

    abbrev down : ℕ
    down = W.down + Q.down

    abbrev up : ℕ
    up = W.up + Q.up

    -- The sum of the two products in column j.
    abbrev X : ℕ → ℕ
    X j = value_at (set ws s 0) j * value d + value (get_or ws s 0) * value_at q j

    module _ (j : ℕ) (h : j < n + 4) where
      own : j ≡ s → X j * 2 ^ down ≡ cell mix j * 2 ^ up
      own e =
          let a : value_at (set ws s 0) j ≡ 0 = ap (value_at (set ws s 0)) e ∙ ap value (get_or-set_same ws s 0 0 (omega (arith, W.wide))) ∙ value_none in
          let b : value_at q j ≡ 0 = value_zero Q j h (rw (eq-eqb j s e)) in
          let c : X j ≡ 0 = rw (a, b, zero-mul (value d), mul-zero (value (get_or ws s 0))) in
          let f : cell mix j ≡ 0 = rw e (combined_own s D p r (omega (arith, R.wide))) in
          rw (c, f, zero-mul (2 ^ down), zero-mul (2 ^ up))

      other : (j ≡ s → ⊥) → X j * 2 ^ down ≡ cell mix j * 2 ^ up
      other e =
          let a : value_at (set ws s 0) j * 2 ^ W.down ≡ cell r j * 2 ^ W.up =
          ap (λ z. value z * 2 ^ W.down) (get_or-set_other ws s j 0 0 e) ∙ W.alike j h in
          let b : value_at q j * 2 ^ Q.down ≡ cell p j * 2 ^ Q.up = Q.alike j h ∙ rw (ne_eqb j s e) in
          rw (pow-add 2 W.down Q.down, pow-add 2 W.up Q.up, combined_cell s D p r j (omega (arith, R.wide)) e)
          (mixed (value_at (set ws s 0) j) (value d) (value (get_or ws s 0)) (value_at q j) (cell r j) D (cell r s) (cell p j)
          (2 ^ W.down)
          (2 ^ W.up)
          (2 ^ Q.down)
          (2 ^ Q.up)
          a
          (W.alike s (omega arith))
          D-alike
          b)

      X-alike : X j * 2 ^ down ≡ cell mix j * 2 ^ up
      X-alike = ⊎_elim own other (same j s)

      left_few : digits (value_at (set ws s 0) j) ≤ most
      left_few =
          ⊎_elim
          (λ (e : j ≡ s). rw (ap (value_at (set ws s 0)) e ∙ ap value (get_or-set_same ws s 0 0 (omega (arith, W.wide))) ∙ value_none) (omega (arith, digits_none)))
          (λ (e : j ≡ s → ⊥). rw (get_or-set_other ws s j 0 0 e) (W.few j h))
          (same j s)

      X-few : digits (X j) ≤ most + 2143
      X-few =
          omega (
            arith,
            mixed_digits most 2142 (value_at (set ws s 0) j) (value d) (value (get_or ws s 0)) (value_at q j) left_few D-few (W.few s (omega arith)) (Q.few j h),
          )

      fresh_at : get_or fresh j 0 ≡ word (X j)
      fresh_at = blended_at d (get_or ws s 0) q (set ws s 0) j (omega (arith, length-set ws s 0, W.wide))

      fresh_value : value_at fresh j ≡ top (X j)
      fresh_value = ap value fresh_at ∙ value_word (X j) (omega (arith, X-few))

    abbrev z : Row
    z = blended n s p r

    abbrev k : ℕ
    k = least_spare (longest (cell z) (length z)) (cell z) (length z)

    pub new_stands : Stands (n + 4) (cell (lowered z)) fresh (most + 2150)
    new_stands =
        record {
          wide = replaced_length s d q ws ∙ W.wide;
          down = down;
          up = k + up;
          alike = λ j h.
              ap (λ y. y * 2 ^ down) (fresh_value j h)
              ∙ alike_top down up (X j) (cell mix j) (X-alike j h)
              ∙ ap (λ y. y * 2 ^ up) (sym (new.lowered_cell n s p r j (omega (arith, R.wide))) ∙ mul_comm (2 ^ k) (cell (lowered z) j))
              ∙ zeros_add (cell (lowered z) j) k up;
          proper = λ j h. fresh_at j h ∙ sym (word_top (X j)) ∙ ap word (sym (fresh_value j h));
          few = λ j h. omega (arith, ap digits (fresh_value j h), top_digits (X j), X-few j h);
        }

-- Every row of every stage is so, and its D.
module _ (c : Chain) (k : Sets) (o : List ℕ) (ready : Prepared c k o) (few : c.states ≤ 64) (small : (i : ℕ) → i < c.states → denominator c i ≤ M)
    (p : ℕ) (part : p ≤ c.states) (i : ℕ) (h : i < c.states)
  where
    pub stage_wordy : Wordy (c.states + 4) (row (near_stage c k o p) i)
    stage_wordy =
        record {
          wide = (nearly_stage c k o ready few p part).wide i h;
          fit = λ j l. omega (arith, near_digits c k o ready few small p part i h j l);
        }

    pub stage_outside : digits (near_outside c.states i (row (near_stage c k o p) i)) ≤ 2111
    stage_outside = omega (arith, near_outside_digits c k o ready few small p part i h)
