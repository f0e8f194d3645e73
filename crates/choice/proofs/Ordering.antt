-- The whole order of a chain whose sets are known: its turns can begin, and what they leave is completed.
use Prim.Native.Nat.{ℕ, ◌+◌, ◌≤◌, ◌<◌}
use mathlib.Core.Path.{◌≡◌, refl, sym, ap, ◌∙◌}
use mathlib.Core.Logic.{⊎_elim}
use mathlib.Core.Bool.{Bool}
use mathlib.Core.List.{List, [], ◌++◌}
use native.Mathlib.Omega.{arith}
use lib.Dec.{eqb}
use lib.ListN.{length, take}
use borrow.Author.Tests.{eq-eqb, ne_eqb}
use Rattle.meaning.specs.Number.{bit}
use Rattle.meaning.specs.Chain.{most_states, Chain, edge_count}
use Rattle.meaning.specs.Step.{Sets, goes}
use Rattle.meaning.specs.Refusal.{Lent, bare, EndFault}
use Rattle.meaning.specs.Choice.{passed_over}
use Rattle.theory.specs.Numbers.Sum.{same}
use Rattle.theory.specs.Chains.Fine.{Fine}
use Rattle.theory.specs.Outcomes.Formed.{few_states, start_in, from_in_lem, formed_fine}
use Rattle.theory.specs.Outcomes.StepsStates.{goes_law}
use Rattle.theory.specs.Outcomes.TurnsCounted.{turns_all}
use Rattle.theory.specs.Outcomes.ChoiceExists.{chosen_whole, whole_products}
use Rattle.theory.specs.Stages.Weighs.{Brought}
use Rattle.chain.specs.declared.Chain.{Chain as Frame}
use Rattle.chain.specs.Lent.{lent}
use Rattle.survey.specs.Sets.{chain_of, sets_of, Exactly}
use Rattle.survey.specs.declared.Sets.{Sets as Found}
use Rattle.choice.specs.Columns.{Without, Gathered}
use Rattle.choice.specs.Turns.{Ready, Turned}
use Rattle.choice.specs.Rest.{has}
use Rattle.choice.specs.Ordered.{Surveyed, Ordered}
use Rattle.choice.specs.declared.turns.Tally.{Tally}
use Rattle.choice.proofs.Weights.{weighed_first}

module _ (c : Frame) (d edges : List ℕ) (sets : Found) (order : List ℕ) (s : Surveyed c d edges sets order) where
  abbrev l : Lent
  l = lent c d edges [] [] []

  abbrev chain : Chain
  chain = chain_of c d edges

  abbrev k : Sets
  k = sets_of sets

  pub surveyed_few : c.states ≤ most_states
  surveyed_few = few_states bare l s.formed

  pub surveyed_start : c.start < most_states
  surveyed_start = omega (arith, surveyed_few, start_in bare l s.formed)

  pub surveyed_ends : (e : ℕ) → EndFault c.states edges e → ⊥
  surveyed_ends e h = s.formed.none 6 e h

  module _ (going : ℕ) (others : Exactly (Without sets.live c.start) going) where
    -- The states that go are the live ones without the start.
    goes_in : (i : ℕ) → has going i ≡ goes c.start sets.live i
    goes_in i =
        ⊎_elim
        (λ (e : i ≡ c.start).
        rw (eq-eqb i c.start e) (ne_eqb (bit going i) 1 (λ b. ((others i).0 b).1 e)))
        (λ (e : i ≡ c.start → ⊥).
        rw (ne_eqb i c.start e) (ap (λ b. eqb b 1) (equal e)))
        (same i c.start)
      where
        equal : (i ≡ c.start → ⊥) → bit going i ≡ bit sets.live i
        equal e =
            ⊎_elim
            (λ (b : bit sets.live i ≡ 1). (others i).1 (b, e) ∙ sym b)
            (λ (b : bit sets.live i ≡ 1 → ⊥). let a : bit going i ≡ 1 → ⊥ = λ a. b ((others i).0 a).0 in omega arith)
            (same (bit sets.live i) 1)

    pub ready : (columns : List ℕ) → Gathered c.states (Brought c.states c.goals edges k (edge_count edges)) columns → Ready chain k c.states going columns order
    ready columns g =
        record {
          states = refl;
          few = surveyed_few;
          fine = formed_fine bare l s.formed refl;
          right = s.right;
          start = start_in bare l s.formed;
          goers = λ i. (
            λ b. sym (goes_in i) ∙ eq-eqb (bit going i) 1 b,
            λ e. let w = (goes_law chain k s.right i).0 e in (others i).1 ((s.right.live i).1 w.0, w.1),
          );
          weighed = weighed_first chain k (formed_fine bare l s.formed refl) (from_in_lem bare l s.formed) columns g;
          size = s.size;
        }

    passed_same : passed_over (has going) c.states ≡ passed_over (goes c.start sets.live) c.states
    passed_same = ap (λ (go : ℕ → Bool). passed_over go c.states) (λ i x. goes_in x i)

    module _ (tally : Tally) (o : List ℕ) (t : Turned chain k tally o) where
      -- There are just as many places left as states passed over.
      pub rest_fits : tally.count + length (passed_over (has going) c.states) ≡ length o
      rest_fits =
          omega (
            arith,
            turns_all chain k (formed_fine bare l s.formed refl) s.right (start_in bare l s.formed) t.turns t.done,
            ap length passed_same,
            t.size,
          )

      pub ordered : (o' : List ℕ) → o' ≡ take tally.count o ++ passed_over (has going) c.states → Ordered c d edges sets o' tally.sum
      ordered o' e =
          rw (e, passed_same)
          (record {
            count = tally.count;
            chosen = chosen_whole chain k fine s.right start t.size t.turns t.done;
            sums = t.sum ∙ whole_products chain k fine s.right start t.size t.turns t.done;
          })
        where
          fine : Fine chain
          fine = formed_fine bare l s.formed refl

          start : c.start < c.states
          start = start_in bare l s.formed
