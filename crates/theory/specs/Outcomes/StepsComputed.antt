-- The companion has an outcome for every input and every list, and it can be computed where the chain's sets are known.
use Rattle.std.specs.Prelude.{ℕ, ◌≡◌, refl, List, [], length}
use Rattle.std.proofs.Common.{ap, subst}
use Rattle.meaning.specs.Number.{filled}
use Rattle.meaning.specs.Row.{exact}
use Rattle.meaning.specs.Step.{Sets, Right}
use Rattle.meaning.specs.Refusal.{Lent, listing, WellFormed}
use Rattle.meaning.specs.Stop.{earns, Stopped, Stops}
use Rattle.meaning.specs.Outcome.{Outcome, refused, stopped, answered, Answer, refusal, ChanceFigure, chance}
use Rattle.meaning.specs.Steps.{StepRecord, records_to, FinishedTo, untouched, listed, StepsOutcome}
use Rattle.theory.specs.Outcomes.Computed.{set_in, chance_computed}

-- The records that go with an answer and a work table, whatever the list held.
pub record Written (l : Lent) (a : Answer) (work : List ℕ) : Type 0 where
  pub records : List StepRecord
  pub outcome : (before : List StepRecord) → StepsOutcome l before a (length records) work (filled records before)

-- What stops the exact engine says how many positions have a finished step.
unfoldable pub finished : {l : Lent} {k : Sets} {number place : ℕ} {a : Answer} → Stops (earns listing l) exact l k number place → a ≡ refusal number place
    → (p : ℕ) × FinishedTo l a p
finished (Stops.before_steps f) e = (0, FinishedTo.before_steps (ap (λ a. a.number) e) (ap (λ a. a.place) e))
finished {l} {a} (Stops.in_step p h w f) e =
    let q : a.place ≡ p = ap (λ a. a.place) e in
    (p, subst (FinishedTo l a) q (FinishedTo.in_step (ap (λ a. a.number) e) (rw q h)))

unfoldable pub written : {l : Lent} {a : Answer} {w : List ℕ} (k : Sets) → (WellFormed listing l → Right l.chain k)
    → Outcome listing l refusal (Stopped (earns listing l) exact l) (ChanceFigure l) a w → Written l a w
unfolding finished
written k right (refused number place r e s) =
    record { records = []; outcome = λ before. record { outcome = refused number place r e s; list = untouched number place r refl refl } }
written {l} k right (stopped number place f t e s) =
    let p = finished t.stops e in
    record {
      records = records_to l k p.0;
      outcome = λ before. record { outcome = stopped number place f t e s; list = listed f k (right f) p.0 p.1 refl refl };
    }
written {l} k right (answered f u (chance p q h e) s) =
    record {
      records = records_to l k l.chain.states;
      outcome = λ before.
          record {
            outcome = answered f u (chance p q h e) s;
            list = listed f k (right f) l.chain.states (FinishedTo.through (ap (λ a. a.number) e)) refl refl;
          };
    }

-- What the companion says, and the records that it writes.
pub record StepsComputed (l : Lent) : Type 0 where
  pub answer : Answer
  pub work : List ℕ
  pub list : Written l answer work

unfoldable pub steps_computed : (l : Lent) (k : Sets) → (WellFormed listing l → Right l.chain k) → StepsComputed l
unfolding chance_computed written
steps_computed l k right =
    let t = chance_computed l k listing refl refl right in
    record { answer = t.answer; work = t.work; list = written k right t.outcome }

pub steps_outcome : (l : Lent) → StepsComputed l
steps_outcome l = set_in listing l (steps_computed l)
