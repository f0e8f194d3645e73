-- Every printed figure of a near chance, and of a chance of missing, is the word of a limit, unless it is 0.
use Rattle.std.specs.Prelude.{ℕ, ◌+◌, ◌*◌, ◌^◌, ◌≤◌, ◌<◌, ◌≡◌, ◌⊎◌, List}
use Rattle.std.proofs.Common.{ap, inl, inr, ⊎_elim, arith, le_trans}
use Rattle.meaning.specs.Refusal.{Lent, plain, WellFormed}
use Rattle.meaning.specs.Near.{Near, NearOutcome}
use Rattle.meaning.specs.Miss.{MissOutcome}
use Rattle.meaning.specs.NearText.{Figure, nought, six_digits, tens_of, raised, lower_figure, upper_figure, figure_text}
use Rattle.meaning.specs.Limit.{limit, most_tens, Says}
use Rattle.theory.specs.Numbers.Sum.{below}
use Rattle.theory.specs.Numbers.Tens.{tens_fewer}
use Rattle.theory.specs.Numbers.Printed.{Lower, lower_case, Upper, upper_case, raised_next, raised_fewer, raised_one}
use Rattle.theory.proofs.Outcomes.NearSizes.{Large, NearFits, near_small, miss_small}
use Rattle.theory.proofs.Outcomes.NearClose.{near_close, near_lower}
use Rattle.theory.proofs.Outcomes.MissClose.{miss_close, miss_lower}
use Rattle.theory.proofs.Outcomes.NearShown.{NearPrinted, near_printed, miss_printed}
use Rattle.theory.specs.Limits.Figure.{figure_says}

-- One more in the last place asks for no more tens.
raised_tens : (f : Figure) → (raised f).tens ≤ f.tens
raised_tens f =
    ⊎_elim
    (λ (h : f.digits < 999999). rw (raised_next f h) (omega arith))
    (λ (h : 999999 ≤ f.digits).
    ⊎_elim
    (λ (l : 6 < f.tens). rw (raised_fewer f h l) (omega arith))
    (λ (l : f.tens ≤ 6). rw (raised_one f h l) (omega arith))
    (below 6 f.tens))
    (below f.digits 999999)

-- A number with 30 binary digits or more has at most 700 tens; so has 0, and what stands over 1.
six_few : (p k : ℕ) → 0 < p → p < 2 ^ k → k ≤ 2110 → 2 ^ 29 ≤ p → tens_of p k ≤ most_tens
six_few p k some less few large = omega (arith, tens_fewer p k some 29 large less)

module _ (p k : ℕ) (few : k ≤ 2110) (large : Large p k) where
  -- A fraction below 1 and above 0 is not over 1.
  many : 0 < p → p < 2 ^ k → 2 ^ 29 ≤ p
  many some less =
      ⊎_elim
      (λ (z : p ≡ 0). absurd (omega arith))
      (λ (r : (k ≡ 0) ⊎ (2 ^ 29 ≤ p)).
      ⊎_elim (λ (z : k ≡ 0). absurd (let e : 2 ^ k ≡ 1 = ap (λ z. 2 ^ z) z in omega arith)) (λ (h : 2 ^ 29 ≤ p). h) r)
      large

  lower_few : (f : Figure) → Lower p k f → f.tens ≤ most_tens
  lower_few f (Lower.none z e) = rw e (omega arith)
  lower_few f (Lower.six o a b l e) = rw e (six_few p k o l few (many o l))
  lower_few f (Lower.all o a b l e) = rw e (omega arith)
  lower_few f (Lower.far o a e) = rw e (omega arith)

module _ (q k : ℕ) (few : k ≤ 2110) (large : Large q k) where
  upper_few : (f : Figure) → Upper q k f → f.tens ≤ most_tens
  upper_few f (Upper.none z e) = rw e (omega arith)
  upper_few f (Upper.six o a b l e) =
      rw e (le_trans (raised_tens (six_digits (q + 1) k)) (six_few (q + 1) k (omega arith) l few (omega (arith, many q k few large o (omega arith)))))
  upper_few f (Upper.all o a b l e) = rw e (omega arith)
  upper_few f (Upper.far o a e) = rw e (omega arith)

-- The figure is the word of a limit, unless it is 0.
abbrev pub SaysItself : Figure → Type 0
SaysItself f = (f ≡ nought → ⊥) → Says (figure_text f) (limit f.digits f.tens)

printed_says : (a : Near) → NearFits a → a.lower ≤ a.upper → a.upper * 2 ^ 16 ≤ a.lower * (2 ^ 16 + 1) → NearPrinted a
    → SaysItself (lower_figure a.lower a.twos) × SaysItself (upper_figure a.upper a.twos)
printed_says a f h c r =
    let p = a.lower in
    let q = a.upper in
    let k = a.twos in
    let raise : Large q k = ⊎_elim (λ (z : p ≡ 0). inl (omega arith)) (λ r. inr (⊎_elim inl (λ l. inr (omega arith)) r)) f.large in (
      λ n. figure_says (lower_figure p k) r.lower_form n (lower_few p k f.twos f.large (lower_figure p k) (lower_case p k)),
      λ n. figure_says (upper_figure q k) r.upper_form n (upper_few q k f.twos raise (upper_figure q k) (upper_case q k)),
    )

module _ (l : Lent) (formed : WellFormed plain l) {a : Near} {w : List ℕ} where
  pub near_says : NearOutcome l a w → SaysItself (lower_figure a.lower a.twos) × SaysItself (upper_figure a.upper a.twos)
  near_says o = printed_says a (near_small l formed o) (near_lower l formed o) (near_close l formed o) (near_printed l formed o)

  pub miss_says : MissOutcome l a w → SaysItself (lower_figure a.lower a.twos) × SaysItself (upper_figure a.upper a.twos)
  miss_says o = printed_says a (miss_small l formed o) (miss_lower l formed o) (miss_close l formed o) (miss_printed l formed o)
