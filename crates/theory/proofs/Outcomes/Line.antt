-- The limit of an order that is nearly a line, in the words of the step list.
use Rattle.std.specs.Prelude.{ℕ, ◌+◌, ◌*◌, ◌≤◌, ◌≡◌, refl, List, get_or, take}
use Rattle.meaning.specs.Number.{sum_to}
use Rattle.meaning.specs.Step.{Sets, Right}
use Rattle.meaning.specs.Refusal.{Lent, listing}
use Rattle.meaning.specs.Outcome.{Answer}
use Rattle.meaning.specs.Steps.{StepRecord, record_of, StepsOutcome}
use Rattle.meaning.specs.Survey.{Count}
use Rattle.meaning.specs.Line.{ShortEdges}
use Rattle.theory.specs.Outcomes.StepsStates.{Removable, steps_through, steps_sum}
use Rattle.theory.specs.Outcomes.Line.{line_limit}

-- Where the companion answers, the sum over the records that it wrote.
pub steps_limit : (l : Lent) {before after : List StepRecord} {a : Answer} {count : ℕ} {w : List ℕ} → a.number ≡ 0
    → StepsOutcome l before a count w after → (k : Sets) → Right l.chain k → (m b : ℕ)
    → Count (Removable l.chain) l.chain.states m → ShortEdges l.chain k l.order b → (d : StepRecord)
    → sum_to (λ i. let r = get_or (take count after) i d in r.rows * r.columns) count ≤ m * (b + 1) * (b + 3)
unfolding record_of
steps_limit l answers s k right m b number short d =
    let run = steps_through l answers s in
    rw (steps_sum l answers s (λ r. r.rows * r.columns) d k right)
    (line_limit listing l run.formed refl refl k right m b number short)
