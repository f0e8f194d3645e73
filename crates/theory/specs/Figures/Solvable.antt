-- The equations of a chain in which some states flow and the value of every other is given: they have one solution.
use Rattle.std.specs.Prelude.{ℕ, ◌+◌, ◌*◌, ◌<◌, ◌≡◌, refl, not, eqb}
use Rattle.std.proofs.Common.{◌∙◌, arith, eq-eqb}
use Rattle.meaning.specs.Number.{sum_to, only}
use Rattle.meaning.specs.Chain.{Chain, denominator, from, to, along, Goal, PathTo, ToGoal}
use Rattle.theory.specs.Numbers.Sum.{sum_ext, sum_zero}
use Rattle.theory.specs.Chains.Flow.{flow_split, flow_term}
use Rattle.theory.specs.Chains.Fine.{Fine}
use Rattle.theory.specs.Chains.Path.{test, test_yes, test_no}
use Rattle.theory.specs.Figures.System.{System, Solves, LeadsOut, leaves, passes, solution, unique}

-- x i over d: where i does not flow g i, elsewhere denominator times x is g i, times d, plus the sum of weight times x of the target.
pub record Fills (c : Chain) (Flows : ℕ → Type 0) (g : ℕ → ℕ) (d : ℕ) (x : ℕ → ℕ) : Type 0 where
  pub whole : 0 < d
  pub given : (i : ℕ) → i < c.states → (Flows i → ⊥) → x i ≡ g i * d
  pub flows : (i : ℕ) → i < c.states → Flows i → denominator c i * x i ≡ g i * d + along c i x

module _ (c : Chain) (fine : Fine c) (Flows : ℕ → Type 0) (dec : (i : ℕ) → Dec (Flows i)) (g : ℕ → ℕ) where
  abbrev between : ℕ → ℕ → ℕ
  between i j = only (test (dec i)) (along c i (λ t. only (eqb t j) 1))

  -- Only a state that flows has weight within the system.
  abbrev system : System
  system = record { a = between; out = λ i. only (not (test (dec i))) 1; g = g }

  -- The sum of a state that flows, and of one that does not.
  flows_sum : (i : ℕ) → Flows i → (x : ℕ → ℕ) → sum_to (λ j. between i j * x j) c.states ≡ along c i x
  flows_sum i f x = rw (test_yes (dec i) f) (flow_split c.edges i c.states fine.targets x)

  flows_all : (i : ℕ) → i < c.states → Flows i → sum_to (between i) c.states ≡ denominator c i
  flows_all i h f =
      sum_ext (between i) (λ j. between i j * 1) c.states (λ j l. omega arith) ∙ flows_sum i f (λ _. 1) ∙ fine.sums i h

  given_sum : (i : ℕ) → (Flows i → ⊥) → (x : ℕ → ℕ) → sum_to (λ j. between i j * x j) c.states ≡ 0
  given_sum i n x = sum_zero _ c.states (λ j l. rw (test_no (dec i) n) (omega arith))

  given_all : (i : ℕ) → (Flows i → ⊥) → sum_to (between i) c.states ≡ 0
  given_all i n = sum_zero _ c.states (λ j l. rw (test_no (dec i) n))

  module _ (d : ℕ) (x : ℕ → ℕ) where
    solves : Fills c Flows g d x → Solves system c.states d x
    solves F = record { whole = F.whole; holds = λ i h. go i h (dec i) }
      where
        go : (i : ℕ) → i < c.states → Dec (Flows i)
            → (sum_to (between i) c.states + only (not (test (dec i))) 1) * x i ≡ sum_to (λ j. between i j * x j) c.states + g i * d
        go i h (yes f) = rw (flows_all i h f, flows_sum i f x, test_yes (dec i) f) (omega (arith, F.flows i h f))
        go i h (no n) = rw (given_all i n, given_sum i n x, test_no (dec i) n) (omega (arith, F.given i h n))

    fills : Solves system c.states d x → Fills c Flows g d x
    fills S =
        record {
          whole = S.whole;
          given = λ i h n. omega (arith, rw (given_all i n, given_sum i n x, test_no (dec i) n) at (S.holds i h));
          flows = λ i h f. omega (arith, rw (flows_all i h f, flows_sum i f x, test_yes (dec i) f) at (S.holds i h));
        }

  module _ (unwon : (i : ℕ) → Flows i → Goal c i → ⊥) (goal : (i : ℕ) → Flows i → ToGoal c i) where
    -- Only a state that flows does not lead out of the system at once.
    leads_by : {i : ℕ} → (Flows i → LeadsOut system c.states i) → LeadsOut system c.states i
    leads_by {i} on = go (dec i)
      where
        go : Dec (Flows i) → LeadsOut system c.states i
        go (yes f) = on f
        go (no n) = leaves {i = i} (rw (test_no (dec i) n) (omega arith))

    leads : {i : ℕ} → ToGoal c i → LeadsOut system c.states i
    leads (PathTo.here i g) = leads_by (λ f. absurd (unwon i f g))
    leads (PathTo.step e l p) =
        let t : ℕ = to c.edges e in
        let m = flow_term c.edges (from c.edges e) (λ j. only (eqb j t) 1) e l refl in
        leads_by {i = from c.edges e} (λ f.
        passes {i = from c.edges e} t (fine.targets e l)
        (rw (test_yes (dec (from c.edges e)) f) (omega (arith, fine.weights e l, rw (eq-eqb t t refl) at m)))
        (leads p))

    all_lead : (i : ℕ) → i < c.states → LeadsOut system c.states i
    all_lead i h = leads_by (λ f. leads (goal i f))

    pub fills_exist : (d : ℕ) × (x : ℕ → ℕ) × Fills c Flows g d x
    fills_exist =
        let (d, x, S) = solution c.states system all_lead in
        (d, x, fills d x S)

    pub fills_agree : {d d' : ℕ} {x x' : ℕ → ℕ} → Fills c Flows g d x → Fills c Flows g d' x'
        → (i : ℕ) → i < c.states → x i * d' ≡ x' i * d
    fills_agree {d} {d'} {x} {x'} F F' = unique c.states system all_lead d d' x x' (solves d x F) (solves d' x' F')
