-- From what the scans find in a table to the verdict on it; and that the verdict is one.
use Prim.Native.Nat.{ℕ, ◌≤◌, ◌<◌}
use mathlib.Core.Path.{◌≡◌, refl, sym, ◌∙◌}
use mathlib.Core.Logic.{⊎_elim, inr}
use mathlib.Core.Bool.{Bool, true, false, not}
use mathlib.Core.List.{List}
use native.Mathlib.Omega.{arith}
use native.Mathlib.Nat.{mul-le-mul}
use lib.Dec.{eqb}
use lib.ListN.{get_or}
use borrow.Author.Tests.{eqb-true, eqb-false}
use Rattle.meaning.specs.Number.{bit, decides}
use Rattle.meaning.specs.Chain.{M, Chain, denominator, flow}
use Rattle.meaning.specs.Refusal.{Lent, bare, OutOfRange, WellFormed}
use Rattle.meaning.specs.Judge.{numerator, Broken, goal_value, zero_value, equation, BrokenAt, NumeratorFault, right, wrong, refusal, InRange, JudgeOutcome, denominator_wrong, numerator_large, says_yes, says_no}
use Rattle.theory.specs.Numbers.Sum.{below}
use Rattle.theory.specs.Outcomes.Formed.{few_states, denominator_small}
use Rattle.theory.specs.Judging.Table.{broken_goal, broken_zero, broken_equation, unbroken_shares}
use Rattle.theory.specs.Judging.Verdicts.{range_some}
use Rattle.look.specs.Least.{Least}
use Rattle.equations.specs.Carry.{Carries, Flows}
use Rattle.equations.specs.Judge.{Differs, DiffersAt, Fits, Known}
use Rattle.equations.proofs.Rounds.{carries}

-- A comparison decides whether two numbers differ.
pub differ : (a b : ℕ) → decides (a ≡ b → ⊥) (not (eqb a b))
differ a b = go (eqb a b) refl
  where
    go : (t : Bool) → eqb a b ≡ t → decides (a ≡ b → ⊥) (not t)
    go true e = λ n. n (eqb-true a b e)
    go false e = eqb-false a b e

module _ {l : Lent} {table : List ℕ} {good : ℕ} (known : Known l table good) where
  abbrev c : Chain
  c = l.chain

  abbrev formed : WellFormed bare l
  formed = known.sent.formed

  carried_is : {carried : List ℕ} → Flows c.edges table carried → {i : ℕ} → i < c.states
      → get_or carried i 0 ≡ flow c.edges i (numerator table)
  carried_is flows {i} h = flows.is i (omega (arith, few_states bare l formed))

  module _ (d : ℕ) where
    -- What differs at a state is what is broken there.
    module _ {carried : List ℕ} (flows : Flows c.edges table carried) {i : ℕ} where
      differs_broken : DiffersAt c.states c.goals good d table c.denominators carried i → BrokenAt c d table i
      differs_broken (h, f) = (h, go (eqb (bit c.goals i) 1) (eqb (bit good i) 1) refl refl f)
        where
          go : (g p : Bool) → eqb (bit c.goals i) 1 ≡ g → eqb (bit good i) 1 ≡ p
              → Differs g p d (numerator table i) (denominator c i) (get_or carried i 0)
              → Broken c d (numerator table) i
          go true p q r f = goal_value (eqb-true _ _ q) f
          go false true q r f = equation (eqb-false _ _ q) ((known.leads i).0 (eqb-true _ _ r)) (λ e. f (e ∙ sym (carried_is flows h)))
          go false false q r f = zero_value (λ t. eqb-false _ _ r ((known.leads i).1 t)) f

      broken_differs : BrokenAt c d table i → DiffersAt c.states c.goals good d table c.denominators carried i
      broken_differs (h, b) = (h, go (eqb (bit c.goals i) 1) (eqb (bit good i) 1) refl refl)
        where
          go : (g p : Bool) → eqb (bit c.goals i) 1 ≡ g → eqb (bit good i) 1 ≡ p
              → Differs g p d (numerator table i) (denominator c i) (get_or carried i 0)
          go true p q r = broken_goal (eqb-true _ _ q) b
          go false true q r = λ e. broken_equation (eqb-false _ _ q) ((known.leads i).0 (eqb-true _ _ r)) b (e ∙ carried_is flows h)
          go false false q r = broken_zero (λ t. eqb-false _ _ r ((known.leads i).1 t)) b

    pub denominator_out : OutOfRange d → JudgeOutcome l d table (refusal 33 0)
    denominator_out o = denominator_wrong known.sent o refl

    module _ (o : OutOfRange d → ⊥) where
      pub numerator_out : {i : ℕ} → Least (NumeratorFault c.states d table) i → JudgeOutcome l d table (refusal 34 i)
      numerator_out {i} f = numerator_large known.sent o i f.here f.before refl

      module _ (none : (i : ℕ) → NumeratorFault c.states d table i → ⊥) where
        ranged : InRange l d table
        ranged = record { whole = o; small = none }

        small : (i : ℕ) → i < c.states → numerator table i ≤ M
        small i h =
            ⊎_elim
            (λ (f : d < numerator table i). absurd (none i (h, f)))
            (λ (f : numerator table i ≤ d). ⊎_elim (λ (m : M < d). absurd (o (inr m))) (λ (m : d ≤ M). omega arith) (below M d))
            (below d (numerator table i))

        pub table_carries : Carries c.edges table
        table_carries = carries l formed table small

        pub table_fits : Fits c.states table c.denominators
        table_fits =
            record {
              few = few_states bare l formed;
              small = λ i h. omega (arith, mul-le-mul (denominator_small bare l formed i h) (small i h));
            }

        module _ {carried : List ℕ} (flows : Flows c.edges table carried) where
          pub some_broken : {i : ℕ} → Least (DiffersAt c.states c.goals good d table c.denominators carried) i
              → JudgeOutcome l d table (wrong i)
          some_broken {i} f =
              says_no known.sent ranged i (differs_broken flows f.here) (λ j h b. f.before j h (broken_differs flows b)) refl

          pub none_broken : ((i : ℕ) → DiffersAt c.states c.goals good d table c.denominators carried i → ⊥)
              → JudgeOutcome l d table right
          none_broken f =
              says_yes known.sent ranged (unbroken_shares (range_some o) (λ i h b. f i (broken_differs flows (h, b)))) refl
