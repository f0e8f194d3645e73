-- The printed figures of an answer hold: the chance lies between those of its line, and what is wanting of it to 1 between those of the other.
use Rattle.std.specs.Prelude.{ℕ, ◌+◌, ◌-◌, ◌*◌, ◌^◌, ◌≤◌, ◌<◌, List}
use Rattle.std.proofs.Common.{arith, le_trans, mul-le-mul_right, pow_pos}
use Rattle.std.proofs.Math.Nat.{le_of_mul-le-mul_left}
use Rattle.meaning.specs.Chain.{Chain}
use Rattle.meaning.specs.Figure.{Chance}
use Rattle.meaning.specs.Refusal.{Lent, plain, WellFormed}
use Rattle.meaning.specs.Demand.{AtMost}
use Rattle.meaning.specs.Near.{Near, NearOutcome}
use Rattle.meaning.specs.Miss.{MissOutcome}
use Rattle.meaning.specs.NearText.{lower_figure, upper_figure}
use Rattle.theory.specs.Numbers.Printed.{Proper}
use Rattle.theory.specs.Numbers.Figured.{lower_below, lower_proper, lower_near, upper_above, upper_proper, upper_next}
use Rattle.theory.proofs.Outcomes.NearSizes.{NearFits, near_small, miss_small}
use Rattle.theory.proofs.Outcomes.NearHolds.{near_holds}
use Rattle.theory.proofs.Outcomes.NearClose.{near_upper, near_lower}
use Rattle.theory.proofs.Outcomes.MissHolds.{miss_holds}
use Rattle.theory.proofs.Outcomes.MissClose.{miss_upper, miss_lower}

-- The chance lies between the figures of its line.
pub record NearShown (c : Chain) (a : Near) : Type 0 where
  pub lower : (p q : ℕ) → Chance c p q → let f = lower_figure a.lower a.twos in AtMost f.digits (10 ^ f.tens) p q
  pub upper : (p q : ℕ) → Chance c p q → let g = upper_figure a.upper a.twos in AtMost p q g.digits (10 ^ g.tens)

-- What is wanting of the chance to 1 lies between the figures of its line.
pub record MissShown (c : Chain) (a : Near) : Type 0 where
  pub lower : (p q : ℕ) → Chance c p q → let f = lower_figure a.lower a.twos in AtMost f.digits (10 ^ f.tens) (q - p) q
  pub upper : (p q : ℕ) → Chance c p q → let g = upper_figure a.upper a.twos in AtMost (q - p) q g.digits (10 ^ g.tens)

-- The printed figures of an answer are 0, 1 or six digits, and close to its numbers.
pub record NearPrinted (a : Near) : Type 0 where
  pub lower_form : Proper (lower_figure a.lower a.twos)
  pub upper_form : Proper (upper_figure a.upper a.twos)
  pub lower_close : let f = lower_figure a.lower a.twos in a.lower * 10 ^ f.tens * 100000 ≤ f.digits * 2 ^ a.twos * 100002
  pub upper_close : let g = upper_figure a.upper a.twos in g.digits * 2 ^ a.twos * 100000 ≤ (a.upper + 1) * 10 ^ g.tens * 100001

-- From a number over K to its figure, of so many digits over t.
module _ (d t x K p q : ℕ) (o : 0 < K) where
  near_below : d * K ≤ x * t → x * q ≤ p * K → d * q ≤ p * t
  near_below h l = le_of_mul-le-mul_left {k = K} (omega (arith, mul-le-mul_right q h, mul-le-mul_right t l)) o

  near_above : x * t ≤ d * K → p * K ≤ x * q → p * t ≤ d * q
  near_above h l = le_of_mul-le-mul_left {k = K} (omega (arith, mul-le-mul_right q h, mul-le-mul_right t l)) o

module _ (l : Lent) (formed : WellFormed plain l) {a : Near} {w : List ℕ} where
  pub near_shown : NearOutcome l a w → NearShown l.chain a
  near_shown o =
      let h = near_holds l formed o in
      let below = lower_below a.lower a.twos in
      let above = upper_above a.upper a.twos (near_upper l formed o) in
      record {
        lower = λ p q C. near_below _ _ a.lower (2 ^ a.twos) p q (pow_pos a.twos) below (h.lower p q C);
        upper = λ p q C. near_above _ _ a.upper (2 ^ a.twos) p q (pow_pos a.twos) above (h.upper p q C);
      }

  pub miss_shown : MissOutcome l a w → MissShown l.chain a
  miss_shown o =
      let h = miss_holds l formed o in
      let below = lower_below a.lower a.twos in
      let above = upper_above a.upper a.twos (miss_upper l formed o) in
      record {
        lower = λ p q C. near_below _ _ a.lower (2 ^ a.twos) (q - p) q (pow_pos a.twos) below (h.lower p q C);
        upper = λ p q C. near_above _ _ a.upper (2 ^ a.twos) (q - p) q (pow_pos a.twos) above (h.upper p q C);
      }

-- Numbers that fit, at most 1, are printed close.
fits_printed : (a : Near) → NearFits a → a.lower ≤ a.upper → a.upper ≤ 2 ^ a.twos → NearPrinted a
fits_printed a f l u =
    record {
      lower_form = lower_proper a.lower a.twos;
      upper_form = upper_proper a.upper a.twos;
      lower_close = lower_near a.lower a.twos (omega (arith, f.lower)) (omega (arith, f.twos)) (le_trans l u);
      upper_close = upper_next a.upper a.twos (omega (arith, f.upper)) (omega (arith, f.twos));
    }

module _ (l : Lent) (formed : WellFormed plain l) {a : Near} {w : List ℕ} where
  pub near_printed : NearOutcome l a w → NearPrinted a
  near_printed o = fits_printed a (near_small l formed o) (near_lower l formed o) (near_upper l formed o)

  pub miss_printed : MissOutcome l a w → NearPrinted a
  miss_printed o = fits_printed a (miss_small l formed o) (miss_lower l formed o) (miss_upper l formed o)
