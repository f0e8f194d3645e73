-- The divisor of a row, and the row divided.
use mathlib.Core.Path.{◌≡◌, sym, ap, ◌∙◌}
use mathlib.Core.Logic.{⊎_elim}
use mathlib.Core.List.{List, [], ◌∷◌}
use Prim.Native.Nat.{ℕ, zero, suc, ◌-◌, ◌*◌, ◌/◌, ◌^◌, ◌≤◌, ◌<◌}
use native.Mathlib.Nat.{div-le_self, div-one, mul-div-le, mod-one, div-div-eq-div-mul}
use native.Mathlib.Numerals.{sub-one}
use native.Mathlib.Omega.{arith}
use lib.ListN.{length, get_or, drop}
use lib.Seq.{drop-cons, ext_get_or}
use borrow.Author.Tests.{eq-eqb, ne_eqb}
use Rattle.meaning.specs.Number.{sum_to, gcd}
use Rattle.meaning.specs.Row.{Row, cell, gcd_of, divisor, over, lowest}
use Rattle.theory.specs.Numbers.Sum.{same, sum_le, sum_scale}
use Rattle.theory.specs.Numbers.Gcd.{gcd_zero, gcd_step}
use Rattle.theory.specs.Numbers.Twos.{Twos}
use Rattle.theory.specs.Rows.Terms.{over_cell, over_length}

-- The divisor from a place on is that of the number there and of the divisor behind it.
pub gcd_of_more : (l : List ℕ) (j : ℕ) → 0 < j → j ≤ length l → gcd_of (drop (j - 1) l) ≡ gcd (get_or l (j - 1) 0) (gcd_of (drop j l))
unfolding gcd_of
gcd_of_more l zero h g = absurd (omega arith)
gcd_of_more l (suc j) h g = rw (sub-one, drop-cons l j 0)

-- A divisor of 1 stays 1, whatever stands before it.
pub gcd_one : (a : ℕ) → gcd a 1 ≡ 1
gcd_one a = gcd_step a 1 ∙ rw (mod-one a) (gcd_zero 1)

-- A row whose numbers from some place on have the divisor 1 has it itself.
pub gcd_of_one : (j : ℕ) (l : List ℕ) → gcd_of (drop j l) ≡ 1 → gcd_of l ≡ 1
unfolding gcd_of
gcd_of_one zero l h = h
gcd_of_one (suc j) [] h = h
gcd_of_one (suc j) (x ∷ l) h = rw (gcd_of_one j l h) (gcd_one x)

pub over_sum : (d : ℕ) (r : Row) (m : ℕ) → sum_to (cell (over d r)) m ≤ sum_to (cell r) m
over_sum d r m = sum_le (cell (over d r)) (cell r) m (λ j h. omega (arith, over_cell d r j, div-le_self (cell r j) d))

pub over_parts : (d : ℕ) (r : Row) (m : ℕ) → d * sum_to (cell (over d r)) m ≤ sum_to (cell r) m
over_parts d r m =
    rw (← sum_scale d (cell (over d r)) m)
    (sum_le (λ j. d * cell (over d r) j) (cell r) m (λ j h. rw (over_cell d r j) (mul-div-le (cell r j) d)))

over_one : (r : Row) → over 1 r ≡ r
over_one r = ext_get_or 0 (over 1 r) r (over_length 1 r) (λ j h. over_cell 1 r j ∙ div-one (cell r j))

pub divisor_one : (r : Row) → gcd_of r ≤ 1 → divisor r ≡ 1
unfolding divisor
divisor_one r h =
    ⊎_elim
    (λ (e : gcd_of r ≡ 0). rw (eq-eqb (gcd_of r) 0 e))
    (λ (d : gcd_of r ≡ 0 → ⊥). rw (ne_eqb (gcd_of r) 0 d) (omega arith))
    (same (gcd_of r) 0)

pub lowest_same : (r : Row) (g : ℕ) → g ≡ gcd_of r → g ≤ 1 → r ≡ lowest r
lowest_same r g e h = sym (rw (divisor_one r (omega arith)) (over_one r))

pub divisor_large : (r : Row) (g : ℕ) → g ≡ gcd_of r → 1 < g → g ≡ divisor r
unfolding divisor
divisor_large r g e h = let d : gcd_of r ≡ 0 → ⊥ = λ z. omega arith in rw (ne_eqb (gcd_of r) 0 d) e

pub lowest_over : (r q : Row) (g : ℕ) → g ≡ gcd_of r → 1 < g → q ≡ over g r → q ≡ lowest r
lowest_over r q g e h k = k ∙ ap (λ (d : ℕ). over d r) (divisor_large r g e h)

-- A row divided twice, and a divisor whose twos are taken out first.
over_over : (p q : ℕ) (r : Row) → over q (over p r) ≡ over (p * q) r
over_over p q r =
    ext_get_or 0 (over q (over p r)) (over (p * q) r)
    (over_length q (over p r) ∙ over_length p r ∙ sym (over_length (p * q) r))
    (λ j h. over_cell q (over p r) j ∙ ap (λ x. x / q) (over_cell p r j) ∙ div-div-eq-div-mul (cell r j) p q ∙ sym (over_cell (p * q) r j))

pub over_twos : (d k : ℕ) (r s : Row) → Twos 64 d k → s ≡ over (2 ^ k) r → over (d / 2 ^ k) s ≡ over d r
over_twos d k r s w e = ap (over (d / 2 ^ k)) e ∙ over_over (2 ^ k) (d / 2 ^ k) r ∙ ap (λ x. over x r) w.whole

pub over_even : (d k : ℕ) (r s : Row) → Twos 64 d k → d / 2 ^ k ≡ 1 → s ≡ over (2 ^ k) r → s ≡ over d r
over_even d k r s w o e = sym (over_one s) ∙ ap (λ x. over x s) (sym o) ∙ over_twos d k r s w e
