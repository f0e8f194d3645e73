-- What an entry promises determines its answer, case and all, and the work table afterwards.
use Prim.Native.Nat.{ℕ, ◌<◌}
use mathlib.Core.Path.{◌≡◌, ap}
use mathlib.Core.Bool.{Bool}
use mathlib.Core.List.{List}
use native.Mathlib.Omega.{arith}
use lib.ListN.{get_or}
use Rattle.meaning.specs.Row.{exact}
use Rattle.meaning.specs.Refusal.{Lent, Entry, plain, listing}
use Rattle.meaning.specs.Stop.{earns, Stopped}
use Rattle.meaning.specs.Outcome.{Outcome, refused, stopped, answered, Answer, refusal, ChanceFigure, ChanceOutcome, Bounds as Numbers, no_bounds, BoundsFigure, BoundsStop, BoundsOutcome}
use Rattle.meaning.specs.Left.{short_rows, LeftOutcome}
use Rattle.theory.specs.Outcomes.DemandTwo.{stopped_twelve}
use Rattle.theory.specs.Outcomes.Steps.{steps_determined}
use Rattle.theory.specs.Outcomes.Entries.{chance_determined, reward_determined, bounds_determined, left_determined}
use Rattle.engines.specs.Answer.{told_chance, told_bounds, ProperChance, ProperBounds}
use Rattle.std.specs.Prelude.{Result, Ok, Err}
use Rattle.chain.specs.declared.fraction.Fraction.{Fraction}
use Rattle.chain.specs.declared.refusal.Refusal.{Refusal}
use Rattle.engines.specs.declared.answer.Reward.{Reward}
use Rattle.engines.specs.declared.answer.Bounds.{Bounds}
use Rattle.engines.specs.declared.answer.Trace.{Trace}
use Rattle.engines.specs.Trace.{Traced}
use Rattle.engines.proofs.TraceOne.{numbers_one}
use Rattle.engines.proofs.Told.{chance_told, reward_told, bounds_told}
use Rattle.engines.specs.Told.{Rewarded}
use Rattle.look.proofs.Refuse.{refused_some}

module _ {a b : Answer} (e : a ≡ b) where
  number : a.number ≡ b.number
  number = ap (λ (a : Answer). a.number) e

  denominator : a.denominator ≡ b.denominator
  denominator = ap (λ (a : Answer). a.denominator) e

-- A fraction has a denominator above 0.
pub chance_proper : (x : Entry) (l : Lent) (r : Result Fraction Refusal) (w : List ℕ)
    → Outcome x l refusal (Stopped (earns x l) exact l) (ChanceFigure l) (told_chance r) w → ProperChance r
chance_proper x l (Ok f) w (refused n p z e s) = absurd (omega (arith, number e, refused_some z))
chance_proper x l (Ok f) w (stopped n p v t e s) = absurd (omega (arith, number e, stopped_twelve t))
chance_proper x l (Ok f) w (answered v t (ChanceFigure.chance p q h e) s) = omega (arith, denominator e, h.lowest.whole)
chance_proper x l (Err r) w o = tt

module _ {a b : Numbers} (e : a ≡ b) where
  which : a.number ≡ b.number
  which = ap (λ (a : Numbers). a.number) e

  lower : a.lower_denominator ≡ b.lower_denominator
  lower = ap (λ (a : Numbers). a.lower_denominator) e

  upper : a.upper_denominator ≡ b.upper_denominator
  upper = ap (λ (a : Numbers). a.upper_denominator) e

-- The figures of the bounds have denominators above 0.
figure_proper : (short : Bool) (l : Lent) (a : Numbers) → BoundsFigure short l a → (0 < a.lower_denominator) × (0 < a.upper_denominator)
figure_proper short l a (BoundsFigure.won g e) = (omega (arith, lower e), omega (arith, upper e))
figure_proper short l a (BoundsFigure.lost g e) = (omega (arith, lower e), omega (arith, upper e))
figure_proper short l a (BoundsFigure.live k r v p q s t f e) =
    (omega (arith, lower e, f.0.lowest.whole), omega (arith, upper e, f.1.lowest.whole))

bounds_proper : (x : Entry) (l : Lent) (r : Result Bounds Refusal) (w : List ℕ) → Outcome x l no_bounds BoundsStop (BoundsFigure x.short l) (told_bounds r) w → ProperBounds r
bounds_proper x l (Ok b) w (refused n p z e s) = absurd (omega (arith, which e, refused_some z))
bounds_proper x l (Ok b) w (stopped n p v t e s) = absurd t
bounds_proper x l (Ok b) w (answered v t g s) = figure_proper x.short l _ g
bounds_proper x l (Err r) w o = tt

module _ (l : Lent) (w w' : List ℕ) where
  pub chance_unique : (r r' : Result Fraction Refusal) → ChanceOutcome l (told_chance r) w → ChanceOutcome l (told_chance r') w' → (r ≡ r') × (w ≡ w')
  chance_unique r r' o o' =
      let e = chance_determined l o o' in
      (chance_told r r' (chance_proper plain l r w o) (chance_proper plain l r' w' o') e.0, e.1)

  pub reward_unique : (r r' : Result Reward Refusal) → Rewarded l r w → Rewarded l r' w' → (r ≡ r') × (w ≡ w')
  reward_unique r r' o o' =
      let e = reward_determined l o.outcome o'.outcome in
      (reward_told r r' o.proper o'.proper e.0, e.1)

  pub bounds_unique : (r r' : Result Bounds Refusal) → BoundsOutcome l (told_bounds r) w → BoundsOutcome l (told_bounds r') w' → (r ≡ r') × (w ≡ w')
  bounds_unique r r' o o' =
      let e = bounds_determined l o o' in
      (bounds_told r r' (bounds_proper plain l r w o) (bounds_proper plain l r' w' o') e.0, e.1)

  pub left_unique : (r r' : Result Bounds Refusal) → LeftOutcome l (told_bounds r) w → LeftOutcome l (told_bounds r') w' → (r ≡ r') × (w ≡ w')
  left_unique r r' o o' =
      let e = left_determined l o o' in
      (bounds_told r r' (bounds_proper short_rows l r w o) (bounds_proper short_rows l r' w' o') e.0, e.1)

  -- Of a trace it determines the answer and every number.
  pub trace_unique : (t t' : Trace) → Traced l t w → Traced l t' w'
      → (t.chance ≡ t'.chance) × ((j : ℕ) → get_or t.numbers j 0 ≡ get_or t'.numbers j 0) × (w ≡ w')
  trace_unique t t' o o' =
      let e = steps_determined l o.outcome o'.outcome in (
        chance_told t.chance t'.chance (chance_proper listing l t.chance w o.outcome.outcome)
            (chance_proper listing l t'.chance w' o'.outcome.outcome) e.0,
        numbers_one t.numbers t'.numbers e.1 e.3 o.past o'.past,
        e.2,
      )
