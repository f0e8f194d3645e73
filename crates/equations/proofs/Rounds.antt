-- One round from the one before, for a well-formed chain.
use Prim.Native.Nat.{ℕ, ◌+◌, ◌*◌, ◌/◌, ◌≤◌, ◌<◌}
use mathlib.Core.Path.{◌≡◌, refl, ap, ◌∙◌}
use mathlib.Core.Bool.{Bool, true, false}
use mathlib.Core.List.{List}
use native.Mathlib.Omega.{arith}
use native.Mathlib.Nat.{zero-div}
use native.Mathlib.Numerals.{add-one}
use lib.Dec.{eqb}
use lib.ListN.{length, get_or, replicate}
use Rattle.meaning.specs.Number.{only, choose, bit}
use Rattle.meaning.specs.Chain.{most_states, M, Chain, denominator, from, to, flow, row_sum}
use Rattle.meaning.specs.Refusal.{Lent, bare, WellFormed}
use Rattle.meaning.specs.Within.{all_parts, held}
use Rattle.theory.specs.Numbers.Tab.{get_d_zeros}
use Rattle.theory.specs.Chains.Flow.{flow_ext, flow_most}
use Rattle.theory.specs.Outcomes.Formed.{few_states, denominator_small, from_in_lem, to_in_lem, row_sum_lem}
use Rattle.theory.specs.Rounds.Held.{held_most}
use Rattle.theory.specs.Rounds.Answers.{formed_ready}
use Rattle.look.proofs.Ends.{wide}
use Rattle.equations.specs.Carry.{value_in, Carries, Flows}
use Rattle.equations.specs.Divide.{gets, Divides, Divided}

-- What each state holds after k rounds.
pub record Holding (c : Chain) (k : ℕ) (values : List ℕ) : Type 0 where
  pub size : length values ≡ most_states
  pub is : (i : ℕ) → i < c.states → get_or values i 0 ≡ held c k i

module _ (l : Lent) (formed : WellFormed bare l) where
  abbrev c : Chain
  c = l.chain

  -- Values of at most M can be carried: a row's sum is at most M times M.
  pub carries : (values : List ℕ) → ((i : ℕ) → i < c.states → value_in values i ≤ M) → Carries c.edges values
  carries values small =
      record {
        ends = wide c.states c.edges (few_states bare l formed) (λ e f. formed.none 6 e f);
        fits = λ e h.
            let i = from c.edges e in
            let in-states : i < c.states = from_in_lem bare l formed e h in
            let most : flow c.edges i (value_in values) ≤ M * row_sum c.edges i =
            flow_most c.edges i (value_in values) M (λ d k q. small (to c.edges d) (to_in_lem bare l formed d k)) in
            let sum : row_sum c.edges i ≡ denominator c i = row_sum_lem bare l formed refl i in-states in
            omega (arith, most, sum, denominator_small bare l formed i in-states);
      }

  pub divides : Divides c.states c.denominators
  divides = record { few = few_states bare l formed; some = (formed_ready l formed).some }

  -- Where nothing is carried the rounds begin.
  pub holds_first : {values : List ℕ} → Divided c.states c.goals c.denominators (replicate most_states 0) values → Holding c 0 values
  unfolding held
  holds_first d = record { size = d.size; is = λ i h. d.is i h ∙ begun i }
    where
      nought : (b : Bool) → choose b all_parts 0 ≡ only b all_parts
      nought true = refl
      nought false = refl

      begun : (i : ℕ) → gets c.goals c.denominators (replicate most_states 0) i ≡ only (eqb (bit c.goals i) 1) all_parts
      begun i = rw (get_d_zeros most_states i, zero-div (denominator c i)) (nought (eqb (bit c.goals i) 1))

  module _ {k : ℕ} {values : List ℕ} (holding : Holding c k values) where
    pub holds_carries : Carries c.edges values
    holds_carries = carries values (λ i h. omega (arith, holding.is i h, held_most (formed_ready l formed) k i h))

    pub holds_next : {carried next : List ℕ} → Flows c.edges values carried → Divided c.states c.goals c.denominators carried next
        → Holding c (k + 1) next
    unfolding held
    holds_next f d =
        record {
          size = d.size;
          is = λ i h.
              rw (add-one k)
              (d.is i h
              ∙ ap (λ z. choose (eqb (bit c.goals i) 1) all_parts (z / denominator c i))
              (f.is i (omega (arith, few_states bare l formed))
              ∙ flow_ext c.edges i (value_in values) (held c k) (λ e b q. holding.is (to c.edges e) (to_in_lem bare l formed e b))));
        }
