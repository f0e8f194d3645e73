-- From the log of an elimination to the trace that the chance entry's companion answers.
use Prim.Native.Nat.{ℕ, suc, ◌+◌, ◌*◌, ◌≤◌, ◌<◌}
use mathlib.Core.Path.{◌≡◌, refl, sym, ◌∙◌}
use mathlib.Core.Logic.{⊎_elim}
use mathlib.Core.Bool.{true}
use mathlib.Core.List.{List, [], ◌∷◌}
use native.Mathlib.Omega.{arith}
use lib.ListN.{length, get_or, get_or-eq_default}
use borrow.Author.Tests.{lt-ltb, le-ltb}
use lib.Dec.{ltb}
use Rattle.meaning.specs.Number.{choose, tab_from}
use Rattle.meaning.specs.Chain.{most_states}
use Rattle.meaning.specs.Row.{exact}
use Rattle.meaning.specs.Step.{Sets, Right, goes}
use Rattle.meaning.specs.Refusal.{Lent, listing, WellFormed}
use Rattle.meaning.specs.Stop.{earns, turn, table_at, Stops, before_steps, in_step}
use Rattle.meaning.specs.Outcome.{refusal}
use Rattle.meaning.specs.Steps.{StepRecord, records_to, FinishedTo, through, before_steps as none_finished, in_step as finished_before, Listed, untouched, listed}
use Rattle.theory.specs.Outcomes.Formed.{few_states, list_room}
use Rattle.theory.specs.Numbers.Tab.{filled_nothing}
use Rattle.theory.specs.Outcomes.Steps.{finished_inside}
use Rattle.theory.specs.Stages.Records.{records_few}
use Rattle.theory.specs.Chains.Sets.{right_one}
use Rattle.engines.specs.Answer.{told_chance}
use Rattle.elimination.specs.Log.{record_numbers, log_size, numbers_of, HoldsRecords, Logged}
use Rattle.elimination.specs.Run.{finished_in}
use Rattle.elimination.specs.Entered.{Comes, Entered}
use Rattle.elimination.specs.declared.engine.Engine.TheVariants.{Chance}
use Rattle.elimination.proofs.Rows.{apart}
use Rattle.engines.specs.ReadOff.{chance_of}
use Rattle.engines.specs.Trace.{count_in, record_in, records_in, Traced}
use Rattle.engines.specs.declared.answer.Trace.{Trace}
use Rattle.std.specs.Prelude.{Result, Ok, Err}
use Rattle.chain.specs.declared.refusal.Refusal.{Refusal}
use Rattle.elimination.specs.declared.course.Ends.{Ends}
use Rattle.elimination.proofs.Noting.{numbers_length}
use Rattle.engines.proofs.Outcomes.{outcome_chance}

-- The records that are read from their numbers, from the i-th on.
records_from : (numbers : List ℕ) (rs : List StepRecord) (i : ℕ)
    → ((j k : ℕ) → k ≡ 1 + record_numbers * i + j → get_or numbers k 0 ≡ get_or (numbers_of rs) j 0) → tab_from i (length rs) (record_in numbers) ≡ rs
unfolding numbers_of tab_from
records_from numbers [] i h = refl
records_from numbers (r ∷ rs) i h =
    rw (
      h 0 (record_numbers * i + 1) (omega arith),
      h 1 (record_numbers * i + 2) (omega arith),
      h 2 (record_numbers * i + 3) (omega arith),
      h 3 (record_numbers * i + 4) (omega arith),
      records_from numbers rs (suc i) (λ j k e. h (suc (suc (suc (suc j)))) k (omega arith)),
    )

-- A log that is asked for.
holds : {log : List ℕ} {rs : List StepRecord} → length log ≡ log_size → Logged log rs → HoldsRecords log rs
holds e h = ⊎_elim (λ z. absurd (omega arith)) (λ z. z) h

module _ {log : List ℕ} {rs : List StepRecord} (h : HoldsRecords log rs) where
  count_held : count_in log ≡ length rs
  count_held = h.cells 0

  records_held : records_in log ≡ rs
  records_held = rw count_held (records_from log rs 0 (λ j k e. let s : k ≡ suc j = omega arith in rw s (h.cells (suc j))))

  past_held : (j : ℕ) → record_numbers * count_in log < j → get_or log j 0 ≡ 0
  past_held j l = h.cells j ∙ get_or-eq_default (length rs ∷ numbers_of rs) 0 {n = j} (omega (arith, count_held, numbers_length rs))

-- The steps that are finished where 12 stops the elimination.
finished_to : {pay : ℕ → ℕ} {l : Lent} {k : Sets} {number place : ℕ} → l.chain.states ≤ most_states → Stops pay exact l k number place
    → FinishedTo l (refusal number place) (choose (ltb place l.chain.states) place 0)
finished_to {l} few (before_steps u) = rw (le-ltb most_states l.chain.states few) (none_finished refl refl)
finished_to {l} few (in_step p h c u) = rw (lt-ltb p l.chain.states h) (finished_before refl h)

-- What the trace says, by its answer and the records that the log holds.
module _ (l : Lent) (w log : List ℕ) (size : length log ≡ log_size) where
  abbrev trace_of : Result Ends Refusal → Trace
  trace_of r = record { chance = chance_of r; numbers = log }

  module _ (r : Result Ends Refusal) (z : Entered listing Chance l w log r) where
    told : (rs : List StepRecord) → HoldsRecords log rs → length rs ≤ most_states → length rs ≤ l.list
        → Listed l (told_chance (chance_of r)) [] (length rs) rs → Traced l (trace_of r) w
    told rs h few room i =
        record {
          outcome = record { outcome = outcome_chance true l w log r z; list = rw (records_held h, count_held h) i };
          few = omega (arith, count_held h);
          inside = omega (arith, count_held h);
          past = past_held h;
        }

    -- Its looking has cleared the input.
    run_told : WellFormed listing l → (k : Sets) → Right l.chain k → FinishedTo l (told_chance (chance_of r)) (finished_in l.chain.states r)
        → Logged log (records_to l k (finished_in l.chain.states r)) → Traced l (trace_of r) w
    run_told formed k right f h =
        let p = finished_in l.chain.states r in
        let rs = records_to l k p in
        let few = records_few l.chain.states (goes l.chain.start k.live) (turn l) (table_at (earns listing l) exact l k) p in
        let inside = finished_inside l f in
        told rs (holds size h) (omega (arith, few, inside, few_states listing l formed)) (omega (arith, few, inside, list_room listing l formed))
        (listed formed k right p f refl (sym (filled_nothing rs)))

  -- The trace of an entry that has looked, and eliminated or not.
  pub traced : (r : Result Ends Refusal) → Entered listing Chance l w log r → Traced l (trace_of r) w
  traced _ (Entered.refused r z s h) =
      told (Err r) (Entered.refused r z s h) [] (holds size h) (omega arith) (omega arith) (untouched _ _ z refl refl)
  traced _ (Entered.came formed s k right (Comes.missed e m)) = absurd (apart e)
  traced (Ok e) (Entered.came formed s k right (Comes.ran sure z h)) =
      run_told (Ok e) (Entered.came formed s k right (Comes.ran sure z h)) formed k right (through refl) h
  traced (Err r) (Entered.came formed s k right (Comes.ran sure z h)) =
      run_told (Err r) (Entered.came formed s k right (Comes.ran sure z h)) formed z.sets z.right
      (finished_to (few_states listing l formed) z.stops) (rw (right_one right z.right) at h)
