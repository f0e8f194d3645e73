-- A verdict holds: kept only where the chance is at most the limit, broken only where it is not, open only where the exact entry refuses.
use Rattle.std.specs.Prelude.{ℕ, ◌*◌, ◌^◌, ◌≤◌, ◌<◌, ◌≡◌, refl, Bool, true, false, List, eqb}
use Rattle.std.proofs.Common.{subst, ⊎_elim, arith, mul-le-mul_right, eqb-true, leb-true, leb-false}
use Rattle.std.proofs.Math.Nat.{le_of_mul-le-mul_left}
use Rattle.std.proofs.lemmas.Bool.{eqb-false}
use Rattle.meaning.specs.Number.{choose}
use Rattle.meaning.specs.Figure.{Chance}
use Rattle.meaning.specs.Refusal.{Lent, plain, WellFormed}
use Rattle.meaning.specs.Outcome.{Answer, ChanceOutcome}
use Rattle.meaning.specs.Demand.{AtMost, TooLarge}
use Rattle.meaning.specs.Near.{Near, NearOutcome}
use Rattle.meaning.specs.NearText.{Figure, lower_figure, upper_figure}
use Rattle.meaning.specs.Limit.{Limit, keeps}
use Rattle.meaning.specs.FileLimit.{Verdict, kept, broken, undecided, figure_keeps, near_verdict, verdict_by}
use Rattle.theory.specs.Numbers.Figured.{ten_some}
use Rattle.theory.specs.Figures.Unique.{chance_one}
use Rattle.theory.specs.Outcomes.Formed.{formed_fine}
use Rattle.theory.specs.Outcomes.DemandTwo.{chance_answers, chance_refuses}
use Rattle.theory.proofs.Outcomes.NearShown.{near_shown}

-- p over q is at most the limit.
abbrev pub Within : Limit → ℕ → ℕ → Type 0
Within m p q = AtMost p q m.digits (10 ^ m.tens)

-- A printed figure is at most the limit.
abbrev pub FigureWithin : Limit → Figure → Type 0
FigureWithin m f = Within m f.digits (10 ^ f.tens)

-- What the test tells.
pub keeps_within : (m : Limit) (p q : ℕ) → keeps m p q ≡ true → Within m p q
keeps_within m p q = leb-true (p * 10 ^ m.tens) (m.digits * q)

pub keeps_not : (m : Limit) (p q : ℕ) → keeps m p q ≡ false → Within m p q → ⊥
keeps_not m p q e h = let l : m.digits * q < p * 10 ^ m.tens = leb-false (p * 10 ^ m.tens) (m.digits * q) e in omega arith

-- What stands below something within the limit is within it, and what stands above something that is not is not.
pub within_below : (p q d t e u : ℕ) → 0 < t → p * t ≤ d * q → d * u ≤ e * t → p * u ≤ e * q
within_below p q d t e u some h l = le_of_mul-le-mul_left {k = t} (omega (arith, mul-le-mul_right u h, mul-le-mul_right q l)) some

-- What the figures' verdict tells.
pub data ByNear (m : Limit) (f g : Figure) : Verdict → Type 0 where
  below : FigureWithin m g → ByNear m f g kept
  above : (FigureWithin m f → ⊥) → ByNear m f g broken
  between : FigureWithin m f → (FigureWithin m g → ⊥) → ByNear m f g undecided

module _ (m : Limit) (f g : Figure) where
  lower_by : (b : Bool) → figure_keeps m f ≡ b → (FigureWithin m g → ⊥) → ByNear m f g (choose b undecided broken)
  lower_by true e n = between (keeps_within m _ _ e) n
  lower_by false e n = above (keeps_not m _ _ e)

  upper_by : (b : Bool) → figure_keeps m g ≡ b → ByNear m f g (choose b kept (choose (figure_keeps m f) undecided broken))
  upper_by true e = below (keeps_within m _ _ e)
  upper_by false e = lower_by (figure_keeps m f) refl (keeps_not m _ _ e)

pub near_by : (m : Limit) (a : Near) → ByNear m (lower_figure a.lower a.twos) (upper_figure a.upper a.twos) (near_verdict m a)
near_by m a =
    let f = lower_figure a.lower a.twos in
    let g = upper_figure a.upper a.twos in
    upper_by m f g (figure_keeps m g) refl

-- What a verdict tells: by the exact chance p over q, or by the figures.
pub data By (m : Limit) (exact : Answer) (a : Near) : Verdict → Type 0 where
  exact_kept : exact.number ≡ 0 → Within m exact.numerator exact.denominator → By m exact a kept
  exact_broken : exact.number ≡ 0 → (Within m exact.numerator exact.denominator → ⊥) → By m exact a broken
  nearly : (exact.number ≡ 0 → ⊥) → {v : Verdict} → ByNear m (lower_figure a.lower a.twos) (upper_figure a.upper a.twos) v → By m exact a v

pub verdict_by_lem : (m : Limit) (exact : Answer) (a : Near) → By m exact a (verdict_by m exact a)
verdict_by_lem m exact a = answers (eqb exact.number 0) refl
  where
    decided : (b : Bool) → keeps m exact.numerator exact.denominator ≡ b → exact.number ≡ 0 → By m exact a (choose b kept broken)
    decided true e z = exact_kept z (keeps_within m _ _ e)
    decided false e z = exact_broken z (keeps_not m _ _ e)

    answers : (b : Bool) → eqb exact.number 0 ≡ b
        → By m exact a (choose b (choose (keeps m exact.numerator exact.denominator) kept broken) (near_verdict m a))
    answers true e = decided (keeps m exact.numerator exact.denominator) refl (eqb-true _ _ e)
    answers false e = nearly (eqb-false _ _ e) (near_by m a)

-- The exact answer, where there is one, is the chance of what is lent.
abbrev pub Right : Lent → Answer → Type 0
Right l exact = exact.number ≡ 0 → Chance l.chain exact.numerator exact.denominator

module _ (l : Lent) (formed : WellFormed plain l) (m : Limit) (exact : Answer) (right : Right l exact) {a : Near} {w : List ℕ} (o : NearOutcome l a w) where
  kept_by : By m exact a kept → {p q : ℕ} → Chance l.chain p q → Within m p q
  kept_by (exact_kept z h) C = let s = chance_one (formed_fine plain l formed refl) C (right z) in rw (s.0, s.1) h
  kept_by (nearly u (below h)) {p} {q} C =
      let g = upper_figure a.upper a.twos in
      within_below p q g.digits (10 ^ g.tens) m.digits (10 ^ m.tens) (ten_some g.tens) ((near_shown l formed o).upper p q C) h

  broken_by : By m exact a broken → {p q : ℕ} → Chance l.chain p q → Within m p q → ⊥
  broken_by (exact_broken z h) C k = let s = chance_one (formed_fine plain l formed refl) C (right z) in h (rw (s.0, s.1) at k)
  broken_by (nearly u (above h)) {p} {q} C k =
      let f = lower_figure a.lower a.twos in
      h (within_below f.digits (10 ^ f.tens) p q m.digits (10 ^ m.tens) C.lowest.whole ((near_shown l formed o).lower p q C) k)

  -- Kept: the chance is at most the limit.
  pub verdict_kept : verdict_by m exact a ≡ kept → {p q : ℕ} → Chance l.chain p q → Within m p q
  verdict_kept e = kept_by (subst (By m exact a) e (verdict_by_lem m exact a))

  -- Broken: it is above.
  pub verdict_broken : verdict_by m exact a ≡ broken → {p q : ℕ} → Chance l.chain p q → Within m p q → ⊥
  verdict_broken e = broken_by (subst (By m exact a) e (verdict_by_lem m exact a))

-- The limit lies between the printed figures: it is below the upper one.
pub record Straddled (m : Limit) (a : Near) : Type 0 where
  pub lower : FigureWithin m (lower_figure a.lower a.twos)
  pub upper : FigureWithin m (upper_figure a.upper a.twos) → ⊥

open_by : {m : Limit} {exact : Answer} {a : Near} → By m exact a undecided → (exact.number ≡ 0 → ⊥) × Straddled m a
open_by (nearly u (between h k)) = (u, record { lower = h; upper = k })

-- Open: the exact entry refuses, and the limit lies between.
pub verdict_open : (l : Lent) → WellFormed plain l → (m : Limit) {exact : Answer} {a : Near} {w : List ℕ} → ChanceOutcome l exact w
    → verdict_by m exact a ≡ undecided → TooLarge l × Straddled m a
verdict_open l formed m {exact} {a} {w} o e =
    let (u, s) = open_by (subst (By m exact a) e (verdict_by_lem m exact a)) in
    let twelve = ⊎_elim (λ z. absurd (u z)) (λ z. z) (chance_answers l formed exact w o) in
    ((chance_refuses l formed exact w o).0 twelve, s)
