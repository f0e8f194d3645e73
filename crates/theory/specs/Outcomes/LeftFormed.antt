-- What is left of a chain and meets no number: its ends are decided, so that its sets are there.
use Rattle.std.specs.Prelude.{ℕ, ◌≤◌, ◌<◌, ◌≡◌, true}
use Rattle.std.proofs.Common.{inl, inr, ⊎_elim, arith}
use Rattle.std.proofs.Math.Decide.{dec_lt}
use Rattle.std.proofs.Math.ListN.{get_or-eq_default}
use Rattle.meaning.specs.Chain.{Chain, denominator, missing, End}
use Rattle.meaning.specs.Step.{Sets, RightTo}
use Rattle.meaning.specs.Refusal.{Lent, WellFormed}
use Rattle.meaning.specs.Left.{short_rows}
use Rattle.theory.specs.Numbers.Search.{either}
use Rattle.theory.specs.Numbers.Sum.{below}
use Rattle.theory.specs.Chains.Path.{dec_goal}
use Rattle.theory.specs.Chains.Sets.{right_to_exists}
use Rattle.theory.specs.Numbers.Bits.{bit_below}
use Rattle.theory.specs.Outcomes.Formed.{denominators_length, goals_in_lem, from_in_lem}

module _ (l : Lent) (formed : WellFormed short_rows l) where
  abbrev c : Chain
  c = l.chain

  -- An end is a state.
  end_state : (i : ℕ) → End true c i → i < c.states
  end_state i (inl g) = bit_below c.goals c.states i (goals_in_lem short_rows l formed) g
  end_state i (inr h) =
      ⊎_elim
      (λ (m : i < c.states). m)
      (λ (m : c.states ≤ i).
      let z : denominator c i ≡ 0 = get_or-eq_default c.denominators 0 (omega (arith, denominators_length short_rows l formed)) in
      absurd (omega (arith, h, z)))
      (below i c.states)

  pub dec_end : (i : ℕ) → Dec (End true c i)
  dec_end i = either (dec_goal c i) (dec_lt 0 (missing c i))

  pub left_right_exists : (k : Sets) × RightTo c (End true c) k
  left_right_exists = right_to_exists c (from_in_lem short_rows l formed) (End true c) dec_end end_state
