-- From what the figures are read off to the outcome of each entry.
use Prim.Native.Nat.{ℕ, ◌+◌, ◌≤◌, ◌<◌}
use mathlib.Core.Path.{◌≡◌, refl, ap, ap₂, ◌∙◌}
use mathlib.Core.Bool.{Bool, true, false}
use mathlib.Core.List.{List}
use native.Mathlib.Omega.{arith}
use borrow.Author.Tests.{ne_eqb}
use Rattle.meaning.specs.Number.{gcd_in, gcd, Reduced}
use Rattle.meaning.specs.Chain.{M, Chain, FromStart}
use Rattle.meaning.specs.Figure.{Chance as IsChance, Missed, Expected}
use Rattle.meaning.specs.Row.{cell, goal_column, unknown_column, exact, rounding, reward_column}
use Rattle.meaning.specs.Row.{reward as reward_in}
use Rattle.meaning.specs.Step.{row, Sets, outside, unknown}
use Rattle.meaning.specs.Refusal.{eliminating, Lent, Entry, plain, paid, WellFormed}
use Rattle.meaning.specs.Left.{short_rows, LeftOutcome}
use Rattle.meaning.specs.Stop.{earns, Stopped}
use Rattle.meaning.specs.Outcome.{cleared, Outcome, refused, stopped, answered, refusal, ChanceFigure, RewardFigure, BoundsFigure, BoundsOutcomeOf, BoundsOutcome}
use Rattle.theory.specs.Numbers.Sum.{sum_two}
use Rattle.theory.specs.Numbers.Gcd.{reduced_share}
use Rattle.theory.specs.Outcomes.Formed.{start_in}
use Rattle.theory.specs.Stages.Fits.{stage_fits}
use Rattle.theory.specs.Outcomes.Whole.{formed_prepared, last_whole, exact_whole, exact_chance, exact_reward, chance_won, chance_lost, reward_won}
use Rattle.theory.specs.Outcomes.DemandThree.{rounding_unstopped}
use Rattle.chain.specs.Reduce.{reduced}
use Rattle.chain.specs.declared.fraction.Fraction.{Fraction}
use Rattle.std.specs.Prelude.{Result, Ok, Err}
use Rattle.chain.specs.declared.refusal.Refusal.{Refusal}
use Rattle.engines.specs.Answer.{told_chance, told_bounds}
use Rattle.chain.proofs.Terms.{terms}
use Rattle.elimination.specs.Run.{table_from, Ended, Read, won, lost, live, runs}
use Rattle.elimination.specs.Entered.{Comes, Entered}
use Rattle.elimination.specs.declared.engine.Engine.TheVariants.{Chance, Reward, Bounds, Left}
use Rattle.elimination.proofs.Rows.{apart}
use Rattle.elimination.proofs.EnteredOne.{read_unstopped}
use Rattle.engines.specs.ReadOff.{terms_of, chance_in, bounds_in, chance_of, reward_of, bounds_of, Summed}
use Rattle.engines.specs.Told.{Rewarded}
use Rattle.elimination.specs.declared.course.Ends.{Ends}

-- The fraction of two numbers.
abbrev over : ℕ → ℕ → Fraction
over a b = record { numerator = a; denominator = b }

-- A chance, and an expected reward, in lowest terms.
lowest_chance : (c : Chain) (a b p q : ℕ) → IsChance c a b → Reduced a b p q → IsChance c p q
lowest_chance c a b p q h r =
    record { lowest = r.lowest; share = λ d x s. reduced_share a b p q d (x c.start) r h.lowest.whole (h.share d x s) }

lowest_reward : (c : Chain) (r : ℕ → ℕ) (a b p q : ℕ) → Expected c r a b → Reduced a b p q → Expected c r p q
lowest_reward c r a b p q h t =
    record { lowest = t.lowest; share = λ d x s. reduced_share a b p q d (x c.start) t h.lowest.whole (h.share d x s) }

-- The numbers that were read.
module _ {pay : ℕ → ℕ} {short b : Bool} {l : Lent} {k : Sets} {e : Ends} (z : Ended pay short b l k e) where
  abbrev n : ℕ
  n = l.chain.states

  read_goal : e.goal ≡ cell (row (table_from pay short b l k n) l.chain.start) (goal_column n)
  read_goal = ap (λ (e : Ends). e.goal) z.read

  read_unknown : e.unknown ≡ cell (row (table_from pay short b l k n) l.chain.start) (unknown_column n)
  read_unknown = ap (λ (e : Ends). e.unknown) z.read

  read_reward : e.reward ≡ reward_in n (row (table_from pay short b l k n) l.chain.start)
  read_reward = ap (λ (e : Ends). e.reward) z.read

  read_outside : e.outside ≡ outside n l.chain.start (row (table_from pay short b l k n) l.chain.start)
  read_outside = ap (λ (e : Ends). e.outside) z.read

chance_read : (x : Entry) → x.order ≡ true → x.short ≡ false → (l : Lent) → WellFormed x l → {e : Ends} → Read (earns x l) false exact l e
    → IsChance l.chain (chance_in e).numerator (chance_in e).denominator
chance_read x o whole l formed (won h q) =
    rw q (lowest_chance l.chain 1 1 _ _ (chance_won l.chain (start_in x l formed) h) (terms (over 1 1) (omega arith)))
chance_read x o whole l formed (lost h q) =
    rw q (lowest_chance l.chain 0 1 _ _ (chance_lost l.chain (start_in x l formed) h) (terms (over 0 1) (omega arith)))
chance_read x o whole l formed (live k right alive z) =
    let ready = formed_prepared x l formed o whole k right in
    let some = exact_whole l.chain k l.order ready (earns x l) alive in
    rw (read_goal z, read_outside z)
    (exact_chance l.chain k l.order ready (earns x l) alive _ _ (terms (over _ _) some))

reward_read : (l : Lent) → WellFormed paid l → (Missed l.chain → ⊥) → {e : Ends} → Read (earns paid l) false exact l e
    → Expected l.chain (earns paid l) (terms_of e.reward e.outside).numerator (terms_of e.reward e.outside).denominator
reward_read l formed sure (won h q) =
    rw q (lowest_reward l.chain (earns paid l) 0 1 _ _ (reward_won l.chain (earns paid l) h) (terms (over 0 1) (omega arith)))
reward_read l formed sure (lost h q) = absurd (sure (l.chain.start, FromStart.begin, h))
reward_read l formed sure (live k right alive z) =
    let ready = formed_prepared paid l formed refl refl k right in
    let whole = exact_whole l.chain k l.order ready (earns paid l) alive in
    rw (read_reward z, read_outside z)
    (exact_reward l.chain k l.order ready (earns paid l) alive sure _ _ (terms (over _ _) whole))

-- What is read off is over a number above 0.
read_whole : (l : Lent) → WellFormed paid l → (Missed l.chain → ⊥) → {e : Ends} → Read (earns paid l) false exact l e → 0 < e.outside
read_whole l formed sure (won h q) = rw q (omega arith)
read_whole l formed sure (lost h q) = rw q (omega arith)
read_whole l formed sure (live k right alive z) =
    rw (read_outside z) (exact_whole l.chain k l.order (formed_prepared paid l formed refl refl k right) (earns paid l) alive)

-- The entry for the bounds, whose rows may fall short or not.
module _ (short : Bool) (l : Lent) where
  abbrev x : Entry
  x = eliminating false false short

  bounds_read : WellFormed x l → {e : Ends} → Read (earns x l) short rounding l e → BoundsFigure short l (told_bounds (Ok (bounds_in e)))
  unfolding gcd gcd_in
  bounds_read formed (won h q) = rw q (BoundsFigure.won h refl)
  bounds_read formed (lost h q) = rw q (BoundsFigure.lost h refl)
  bounds_read formed (live k right alive z) =
      let whole = last_whole x l formed refl k right alive in
      rw (read_goal z, read_unknown z, read_outside z)
      (BoundsFigure.live k right alive _ _ _ _ (terms (over _ _) whole, terms (over _ _) whole) refl)

  -- Goal and Unknown can be added: together they are no more than the row's total.
  read_sum : WellFormed x l → {e : Ends} → Read (earns x l) short rounding l e → e.goal + e.unknown ≤ M
  read_sum formed (won h q) = rw q (omega arith)
  read_sum formed (lost h q) = rw q (omega arith)
  read_sum formed (live k right alive z) =
      let n = l.chain.states in
      let r = row (table_from (earns x l) short rounding l k n) l.chain.start in
      omega (
        arith,
        read_goal z,
        read_unknown z,
        sum_two (cell r) (reward_column n) n (unknown_column n) (omega arith) (omega arith) (omega arith),
        (stage_fits l.chain k (earns x l) (unknown short l.chain) l.order rounding n l.chain.start (start_in x l formed)).small refl,
      )

  -- The elimination does not stop.
  bounds_came : {w : List ℕ} (r : Result Ends Refusal) → WellFormed x l → w ≡ cleared l → runs (earns x l) short rounding l r
      → BoundsOutcomeOf x l (told_bounds (bounds_of r)) w
  bounds_came (Ok e) formed s z = answered formed (λ number place t. t) (bounds_read formed z) s
  bounds_came (Err r) formed s z = absurd (rounding_unstopped z)

  bounds_summed : (r : Result Ends Refusal) → WellFormed x l → runs (earns x l) short rounding l r → Summed r
  bounds_summed (Ok e) formed z = read_sum formed z
  bounds_summed (Err r) formed z = tt

-- A fraction that was made of two numbers and reduced.
pub reduced_of : {f g : Fraction} {a b : ℕ} → (f.numerator ≡ a) × (f.denominator ≡ b) → g ≡ reduced f → g ≡ reduced (over a b)
reduced_of {a = a} {b = b} e q = q ∙ ap reduced (ap₂ over e.0 e.1)

-- The outcome of the entries for the chance, which may be lent a step list or not, by what the chance engine comes to.
pub outcome_chance : (list : Bool) (l : Lent) (w log : List ℕ) (r : Result Ends Refusal) → let x = eliminating false list false in
    Entered x Chance l w log r → Outcome x l refusal (Stopped (earns x l) exact l) (ChanceFigure l) (told_chance (chance_of r)) w
outcome_chance list l w log _ (Entered.refused r z s h) = refused _ _ z refl s
outcome_chance list l w log _ (Entered.came formed s k right (Comes.missed e m)) = absurd (apart e)
outcome_chance list l w log (Ok e) (Entered.came formed s k right (Comes.ran sure z h)) =
    let x = eliminating false list false in
    answered formed (read_unstopped (earns x l) l z) (ChanceFigure.chance _ _ (chance_read x refl refl l formed z) refl) s
outcome_chance list l w log (Err r) (Entered.came formed s k right (Comes.ran sure z h)) = stopped _ _ formed z refl s

-- Of the two entries for the bounds.
pub outcome_bounds : (l : Lent) (w log : List ℕ) (r : Result Ends Refusal) → Entered plain Bounds l w log r → BoundsOutcome l (told_bounds (bounds_of r)) w
outcome_bounds l w log _ (Entered.refused r z s h) = refused _ _ z refl s
outcome_bounds l w log _ (Entered.came formed s k right (Comes.missed e m)) = absurd (apart e)
outcome_bounds l w log r (Entered.came formed s k right (Comes.ran sure z h)) = bounds_came false l r formed s z

pub outcome_left : (l : Lent) (w log : List ℕ) (r : Result Ends Refusal) → Entered short_rows Left l w log r → LeftOutcome l (told_bounds (bounds_of r)) w
outcome_left l w log _ (Entered.refused r z s h) = refused _ _ z refl s
outcome_left l w log _ (Entered.came formed s k right (Comes.missed e m)) = absurd (apart e)
outcome_left l w log r (Entered.came formed s k right (Comes.ran sure z h)) = bounds_came true l r formed s z

pub summed_bounds : (l : Lent) (w log : List ℕ) (r : Result Ends Refusal) → Entered plain Bounds l w log r → Summed r
summed_bounds l w log _ (Entered.refused r z s h) = tt
summed_bounds l w log _ (Entered.came formed s k right (Comes.missed e m)) = absurd (apart e)
summed_bounds l w log r (Entered.came formed s k right (Comes.ran sure z h)) = bounds_summed false l r formed z

pub summed_left : (l : Lent) (w log : List ℕ) (r : Result Ends Refusal) → Entered short_rows Left l w log r → Summed r
summed_left l w log _ (Entered.refused r z s h) = tt
summed_left l w log _ (Entered.came formed s k right (Comes.missed e m)) = absurd (apart e)
summed_left l w log r (Entered.came formed s k right (Comes.ran sure z h)) = bounds_summed true l r formed z

-- Of the entry for the expected reward.
pub outcome_reward : (l : Lent) (w log : List ℕ) (r : Result Ends Refusal) → Entered paid Reward l w log r → Rewarded l (reward_of r) w
outcome_reward l w log _ (Entered.refused r z s h) = record { outcome = refused _ _ z refl s; proper = tt }
outcome_reward l w log _ (Entered.came formed s k right (Comes.missed e m)) =
    record { outcome = answered formed (λ number place z. z.0 m) (RewardFigure.missed m refl) s; proper = tt }
outcome_reward l w log (Ok e) (Entered.came formed s k right (Comes.ran sure z h)) =
    let t = reward_read l formed (sure refl) z in
    rw (ne_eqb e.outside 0 (λ n. omega (arith, n, read_whole l formed (sure refl) z)))
    (record {
      outcome = answered formed (λ number place y. read_unstopped (earns paid l) l z number place y.1) (RewardFigure.expected (sure refl) _ _ t refl) s;
      proper = t.lowest.whole;
    })
outcome_reward l w log (Err r) (Entered.came formed s k right (Comes.ran sure z h)) =
    record { outcome = stopped _ _ formed (sure refl, z) refl s; proper = tt }
