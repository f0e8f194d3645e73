-- The numbers of near chances and chances of missing are small: exponents below 2 ^ 12, numerators up to 2 ^ 33, denominators up to 2 ^ 2110.
use Rattle.std.specs.Prelude.{ℕ, ◌+◌, ◌*◌, ◌^◌, ◌≤◌, ◌<◌, ◌≡◌, refl, ◌⊎◌, List}
use Rattle.std.proofs.Common.{sym, subst, inl, inr, ⊎_elim, arith, zero-mul, mul-le-mul, le-div_iff_mul-le, eq-eqb, ne_eqb}
use Rattle.std.proofs.Math.Nat.{zero-div}
use Rattle.meaning.specs.Chain.{M, Chain, denominator, Live}
use Rattle.meaning.specs.Row.{Row, cell, width}
use Rattle.meaning.specs.Step.{row, Sets, Right}
use Rattle.meaning.specs.Refusal.{Lent, plain, WellFormed}
use Rattle.meaning.specs.Near.{digits, spare, near_outside, near_stage, rows_made, Near, near_from, near_live, NearFigure, NearOutcome}
use Rattle.meaning.specs.Miss.{miss_live, MissFigure, MissOutcome}
use Rattle.theory.specs.Numbers.Sum.{same}
use Rattle.theory.specs.Numbers.Sure.{quotient, sure, lower_of}
use Rattle.theory.specs.Numbers.Narrow.{quotient_small, quotient_large, lower_small, upper_small}
use Rattle.theory.specs.Stages.Last.{Prepared}
use Rattle.theory.proofs.Stages.NearDigits.{near_digits, near_outside_digits}
use Rattle.theory.proofs.Stages.NearLast.{rows_most, last_some, last_twice}
use Rattle.theory.specs.Outcomes.Formed.{few_states, denominator_small}
use Rattle.theory.specs.Outcomes.Whole.{formed_prepared}
use Rattle.theory.specs.Outcomes.NearFigure.{near_figure}
use Rattle.theory.specs.Outcomes.NearFigure.{miss_figure}

-- A number has 30 binary digits or more, is 0, or stands over 1.
abbrev pub Large : ℕ → ℕ → Type 0
Large p k = (p ≡ 0) ⊎ ((k ≡ 0) ⊎ (2 ^ 29 ≤ p))

-- The numbers of an answer fit: two of 8 bytes and one of 4 hold them.
pub record NearFits (a : Near) : Type 0 where
  pub lower : a.lower < 2 ^ 32
  pub upper : a.upper ≤ 2 ^ 33
  pub twos : a.twos ≤ 2110
  pub large : Large a.lower a.twos

lower_large : (q s : ℕ) → 2 ^ 30 ≤ q → 2 ^ 29 ≤ s → 2 ^ 29 ≤ lower_of q s
lower_large q s h l = (le-div_iff_mul-le {k = 2 ^ 30} {x = 2 ^ 29} {y = q * s} (omega arith)).1 (omega (arith, mul-le-mul h l))

from_fits : (G D rows : ℕ) → 0 < D → G ≤ 2 * D → digits D ≤ 2079 → rows ≤ 4032 → NearFits (near_from G D rows)
from_fits G D rows some most few less =
    let q = quotient_small G D some most in
    record {
      lower = lower_small (quotient G D) (sure rows) q (omega arith);
      upper = omega (arith, upper_small (quotient G D) (sure rows) q (omega arith));
      twos = omega arith;
      large =
          ⊎_elim
          (λ (z : G ≡ 0). let e : quotient G D ≡ 0 = rw (z, zero-mul) (zero-div D) in inl (rw (e, zero-mul) (zero-div (2 ^ 30))))
          (λ (z : G ≡ 0 → ⊥). inr (inr (lower_large (quotient G D) (sure rows) (quotient_large G D (omega arith) some most) (omega arith))))
          (same G 0);
    }

module _ (c : Chain) (k : Sets) (o : List ℕ) (ready : Prepared c k o) (few : c.states ≤ 64) (small : (i : ℕ) → i < c.states → denominator c i ≤ M)
    (alive : Live c c.start)
  where
    abbrev last : Row
    last = row (near_stage c k o c.states) c.start

    column_fits : (G : ℕ) → G ≤ cell last c.states + cell last (c.states + 1)
        → NearFits (near_from G (near_outside c.states c.start last) (rows_made c k o c.states))
    column_fits G most =
        from_fits G (near_outside c.states c.start last) (rows_made c k o c.states) (last_some c k o ready few alive)
        (omega (arith, last_twice c k o ready few alive))
        (near_outside_digits c k o ready few small c.states (omega arith) c.start ready.start)
        (rows_most c k o ready few)

    near_fits : NearFits (near_live c k o)
    near_fits = column_fits (cell last c.states) (omega arith)

    miss_fits : NearFits (miss_live c k o)
    miss_fits =
        let T = cell last (c.states + 1) in
        ⊎_elim
        (λ (z : T ≡ 0). rw (eq-eqb T 0 z) (record { lower = omega arith; upper = omega arith; twos = omega arith; large = inl refl }))
        (λ (z : T ≡ 0 → ⊥). rw (ne_eqb T 0 z) (column_fits T (omega arith)))
        (same T 0)

module _ (l : Lent) (formed : WellFormed plain l) where
  abbrev n : ℕ
  n = l.chain.states

  ready : (k : Sets) → Right l.chain k → Prepared l.chain k l.order
  ready = formed_prepared plain l formed refl refl

  -- At every stage every weight of every row, and D of it, has at most 2,079 digits, so that the exponent beside its first 31 is below 2 ^ 12.
  pub near_exponents : (k : Sets) → Right l.chain k → (p : ℕ) → p ≤ n → (i : ℕ) → i < n
      → let r = row (near_stage l.chain k l.order p) i in
      ((j : ℕ) → j < width n → spare (cell r j) < 2 ^ 12) × (spare (near_outside n i r) < 2 ^ 12)
  near_exponents k right p part i h = (
    λ j b. omega (arith, near_digits l.chain k l.order (ready k right) (few_states plain l formed) (denominator_small plain l formed) p part i h j b),
    omega (arith, near_outside_digits l.chain k l.order (ready k right) (few_states plain l formed) (denominator_small plain l formed) p part i h),
  )

  near_figure_fits : (a : Near) → NearFigure l a → NearFits a
  near_figure_fits a (NearFigure.won g e) = subst NearFits (sym e) (record { lower = omega arith; upper = omega arith; twos = omega arith; large = inr (inl refl) })
  near_figure_fits a (NearFigure.lost g e) = subst NearFits (sym e) (record { lower = omega arith; upper = omega arith; twos = omega arith; large = inl refl })
  near_figure_fits a (NearFigure.live k right alive e) =
      subst NearFits (sym e)
      (near_fits l.chain k l.order (ready k right) (few_states plain l formed) (denominator_small plain l formed) alive)

  miss_figure_fits : (a : Near) → MissFigure l a → NearFits a
  miss_figure_fits a (MissFigure.won g e) = subst NearFits (sym e) (record { lower = omega arith; upper = omega arith; twos = omega arith; large = inl refl })
  miss_figure_fits a (MissFigure.lost g e) = subst NearFits (sym e) (record { lower = omega arith; upper = omega arith; twos = omega arith; large = inr (inl refl) })
  miss_figure_fits a (MissFigure.live k right alive e) =
      subst NearFits (sym e)
      (miss_fits l.chain k l.order (ready k right) (few_states plain l formed) (denominator_small plain l formed) alive)

  pub near_small : {a : Near} {w : List ℕ} → NearOutcome l a w → NearFits a
  near_small {a} o = near_figure_fits a (near_figure l formed o)

  pub miss_small : {a : Near} {w : List ℕ} → MissOutcome l a w → NearFits a
  miss_small {a} o = miss_figure_fits a (miss_figure l formed o)
