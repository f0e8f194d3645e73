-- The companion of the entry for the chance, which writes the step list, has one outcome: answer, count, work table and list; and its list
-- keeps its length.
use Rattle.std.specs.Prelude.{ℕ, ◌≤◌, ◌≡◌, refl, List, length, drop}
use Rattle.std.proofs.Common.{sym, ap, subst, ◌∙◌, arith, length-append, length-drop}
use Rattle.meaning.specs.Number.{filled}
use Rattle.meaning.specs.Row.{exact}
use Rattle.meaning.specs.Refusal.{Lent, listing, WellFormed}
use Rattle.meaning.specs.Stop.{earns, turn, table_at}
use Rattle.meaning.specs.Outcome.{Answer}
use Rattle.meaning.specs.Steps.{StepRecord, records_to, FinishedTo, through, before_steps, in_step, Listed, untouched, listed, StepsOutcome}
use Rattle.theory.specs.Chains.Sets.{right_one}
use Rattle.theory.specs.Stages.Records.{records_few}
use Rattle.theory.specs.Outcomes.Formed.{few_states, list_room}
use Rattle.theory.specs.Outcomes.Determined.{refused_unformed, outcome_one}
use Rattle.theory.specs.Outcomes.Entries.{stopped_one, chance_figure_one}

module _ (l : Lent) where
  -- One answer has one number of positions whose step is finished.
  finished_one : WellFormed listing l → {a : Answer} {p q : ℕ} → FinishedTo l a p → FinishedTo l a q → p ≡ q
  finished_one w (through e) (through e') = refl
  finished_one w (through e) (before_steps e' h) = absurd (omega (arith, e, e'))
  finished_one w (through e) (in_step e' h) = absurd (omega (arith, e, e'))
  finished_one w (before_steps e h) (through e') = absurd (omega (arith, e, e'))
  finished_one w (before_steps e h) (before_steps e' h') = refl
  finished_one w (before_steps e h) (in_step e' h') = absurd (omega (arith, h, h', few_states listing l w))
  finished_one w (in_step e h) (through e') = absurd (omega (arith, e, e'))
  finished_one w (in_step e h) (before_steps e' h') = absurd (omega (arith, h, h', few_states listing l w))
  finished_one w (in_step e h) (in_step e' h') = refl

  -- For one answer the count is one, and the list afterwards.
  listed_one : {a : Answer} {before after after' : List StepRecord} {count count' : ℕ} → Listed l a before count after
      → Listed l a before count' after' → (count ≡ count') × (after ≡ after')
  listed_one (untouched n p r c e) (untouched n' p' r' c' e') = (c ∙ sym c', e ∙ sym e')
  listed_one (untouched n p r c e) (listed w' k' right' p' f' c' e') = absurd (refused_unformed r w')
  listed_one (listed w k right p f c e) (untouched n' p' r' c' e') = absurd (refused_unformed r' w)
  listed_one {before} (listed w k right p f c e) (listed w' k' right' p' f' c' e') =
      let s : records_to l k p ≡ records_to l k' p' = rw (right_one right right', finished_one w f f') in
      (c ∙ ap length s ∙ sym c', e ∙ ap (λ r. filled r before) s ∙ sym e')

  pub steps_determined : {before after after' : List StepRecord} {a a' : Answer} {count count' : ℕ} {w w' : List ℕ}
      → StepsOutcome l before a count w after → StepsOutcome l before a' count' w' after'
      → (a ≡ a') × (count ≡ count') × (w ≡ w') × (after ≡ after')
  steps_determined {before} {after' = after'} {count' = count'} s s' =
      let o = outcome_one (stopped_one {pay = earns listing l} {b = exact} {l = l}) (chance_figure_one l listing refl) s.outcome s'.outcome in
      let t = listed_one s.list (subst (λ a. Listed l a before count' after') (sym o.0) s'.list) in
      (o.0, t.0, o.1, t.1)

  -- There are at most n records, so that the list keeps its length.
  pub finished_inside : {a : Answer} {p : ℕ} → FinishedTo l a p → p ≤ l.chain.states
  finished_inside (through e) = omega arith
  finished_inside (before_steps e h) = omega arith
  finished_inside (in_step e h) = omega (arith, h)

  pub steps_room_lem : {before after : List StepRecord} {a : Answer} {count : ℕ} {w : List ℕ} → length before ≡ l.list
      → StepsOutcome l before a count w after → (count ≤ l.chain.states) × (length after ≡ length before)
  steps_room_lem {before} {after} {a} {count} lent s = at s.list
    where
      at : Listed l a before count after → (count ≤ l.chain.states) × (length after ≡ length before)
      at (untouched number place r c e) = (omega (arith, c), ap length e)
      at (listed f k right p t c e) =
          let r = records_to l k p in
          let small : length r ≤ p = records_few l.chain.states _ (turn l) (table_at (earns listing l) exact l k) p in
          let few : length r ≤ l.chain.states = omega (arith, finished_inside t) in
          let room = list_room listing l f in (
            omega (arith, c, few),
            ap length e ∙ omega (arith, few, lent, room, length-append r (drop (length r) before), length-drop (length r) before),
          )
