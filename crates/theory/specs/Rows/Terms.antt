-- A row in lowest terms: the divisor that is taken out, and what is left.
use Rattle.std.specs.Prelude.{ℕ, zero, suc, ◌+◌, ◌*◌, ◌/◌, ◌≤◌, ◌<◌, ◌≡◌, [], ◌∷◌, length}
use Rattle.std.specs.Int.{◌∣◌}
use Rattle.std.proofs.Common.{sym, ap, ◌∙◌, ⊎_elim, arith, mul-one, eq-eqb, ne_eqb}
use Rattle.std.proofs.Math.Nat.{dvd-zero, dvd_trans, mul-div_cancel', mul-dvd-mul_left, eq-zero_of_zero-dvd, eq-one_of_dvd-one, dvd_of_mul-dvd-mul_left, zero-div}
use Rattle.std.proofs.Math.ListN.{get_or-eq_default}
use Rattle.meaning.specs.Row.{Row, cell, total, gcd_of, divisor, over, lowest}
use Rattle.theory.specs.Numbers.Sum.{same, below, sum_ext, sum_scale}
use Rattle.theory.specs.Numbers.Tab.{tab_at, tab_past, tab_length}
use Rattle.theory.specs.Numbers.Gcd.{gcd_greatest}

-- Every number of a row divided, those past its end too: they are 0.
pub over_cell : (d : ℕ) (r : Row) (j : ℕ) → cell (over d r) j ≡ cell r j / d
unfolding over
over_cell d r j =
    ⊎_elim
    (λ (h : j < length r). tab_at (length r) _ 0 j h)
    (λ (h : length r ≤ j).
    rw (tab_past 0 (length r) (λ j. cell r j / d) 0 j h, get_or-eq_default r 0 {n = j} h) (sym (zero-div d)))
    (below j (length r))

pub over_length : (d : ℕ) (r : Row) → length (over d r) ≡ length r
unfolding over
over_length d r = tab_length 0 (length r) _

pub gcd_divides : (r : Row) (j : ℕ) → gcd_of r ∣ cell r j
unfolding gcd_of
gcd_divides [] j = dvd-zero 0
gcd_divides (x ∷ r) zero = (gcd_greatest x (gcd_of r)).left
gcd_divides (x ∷ r) (suc j) = dvd_trans _ (gcd_greatest x (gcd_of r)).right (gcd_divides r j)

pub gcd_most : (r : Row) (k : ℕ) → ((j : ℕ) → j < length r → k ∣ cell r j) → k ∣ gcd_of r
unfolding gcd_of
gcd_most [] k h = dvd-zero k
gcd_most (x ∷ r) k h = (gcd_greatest x (gcd_of r)).most k (h 0 (omega arith)) (gcd_most r k (λ j l. h (suc j) (omega arith)))

pub divisor_whole : (r : Row) → 0 < divisor r
unfolding divisor
divisor_whole r =
    ⊎_elim
    (λ (e : gcd_of r ≡ 0). rw (eq-eqb (gcd_of r) 0 e) (omega arith))
    (λ (d : gcd_of r ≡ 0 → ⊥). rw (ne_eqb (gcd_of r) 0 d) (omega arith))
    (same (gcd_of r) 0)

pub divisor_divides : (r : Row) (j : ℕ) → divisor r ∣ cell r j
unfolding divisor
divisor_divides r j =
    ⊎_elim
    (λ (e : gcd_of r ≡ 0).
    rw (eq-eqb (gcd_of r) 0 e)
    (rw (eq-zero_of_zero-dvd (rw e at (gcd_divides r j))) (dvd-zero 1)))
    (λ (d : gcd_of r ≡ 0 → ⊥). rw (ne_eqb (gcd_of r) 0 d) (gcd_divides r j))
    (same (gcd_of r) 0)

pub divisor_greatest : (r : Row) (j : ℕ) → 0 < cell r j → divisor r ≡ gcd_of r
unfolding divisor
divisor_greatest r j h =
    ⊎_elim
    (λ (e : gcd_of r ≡ 0). absurd (let z = eq-zero_of_zero-dvd (rw e at (gcd_divides r j)) in omega arith))
    (λ (d : gcd_of r ≡ 0 → ⊥). rw (ne_eqb (gcd_of r) 0 d))
    (same (gcd_of r) 0)

module _ (r : Row) where
  pub lowest_cell : (j : ℕ) → cell r j ≡ divisor r * cell (lowest r) j
  lowest_cell j = rw (over_cell (divisor r) r j) (sym (mul-div_cancel' (divisor r) (divisor_divides r j)))

  pub lowest_length : length (lowest r) ≡ length r
  lowest_length = over_length (divisor r) r

  pub lowest_total : (n : ℕ) → total n r ≡ divisor r * total n (lowest r)
  lowest_total n = sum_ext _ _ (n + 3) (λ j h. lowest_cell j) ∙ sum_scale (divisor r) (cell (lowest r)) (n + 3)

  -- A cell is zero in the row where it is in the lowest terms, and only there.
  pub lowest_positive : (j : ℕ) → 0 < cell r j → 0 < cell (lowest r) j
  lowest_positive j p =
      ⊎_elim
      (λ (e : cell (lowest r) j ≡ 0).
      absurd (let z : cell r j ≡ divisor r * 0 = lowest_cell j ∙ ap (λ k. divisor r * k) e in omega arith))
      (λ (d : cell (lowest r) j ≡ 0 → ⊥). omega arith)
      (same (cell (lowest r) j) 0)

  pub lowest_zero : (j : ℕ) → cell r j ≡ 0 → cell (lowest r) j ≡ 0
  lowest_zero j e = over_cell (divisor r) r j ∙ rw e (zero-div (divisor r))

  pub lowest_one : (j : ℕ) → 0 < cell r j → gcd_of (lowest r) ≡ 1
  lowest_one j p =
      let q : ℕ = gcd_of (lowest r) in
      let a : divisor r * q ∣ gcd_of r =
      gcd_most r (divisor r * q)
      (λ i h. rw (lowest_cell i) (mul-dvd-mul_left q (divisor r) (gcd_divides (lowest r) i))) in
      let b : divisor r * q ∣ divisor r * 1 = rw (mul-one, divisor_greatest r j p) (rw (divisor_greatest r j p) at a) in
      eq-one_of_dvd-one (dvd_of_mul-dvd-mul_left q (divisor_whole r) b)
