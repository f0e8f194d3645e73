-- The step list of a chain file is one, for one input and one list; its place is small. What the desk's program prints is one text.
use Rattle.std.specs.Prelude.{ℕ, ◌+◌, ◌≤◌, ◌≡◌, Bool, List, ◌++◌}
use Rattle.std.proofs.Common.{sym, ap₂, ◌∙◌, arith}
use Rattle.meaning.specs.Chain.{most_states, most_edges}
use Rattle.meaning.specs.Step.{Sets}
use Rattle.meaning.specs.Row.{exact}
use Rattle.meaning.specs.Refusal.{Lent, Entry, with_list, listing, WellFormed}
use Rattle.meaning.specs.Stop.{earns, Stops, Stopped}
use Rattle.meaning.specs.Outcome.{Outcome, Answer, refusal, ChanceFigure, refused, stopped, answered}
use Rattle.meaning.specs.Block.{Input}
use Rattle.meaning.specs.Steps.{StepRecord, StepsOutcome}
use Rattle.meaning.specs.File.{FileRefused, plain_in}
use Rattle.meaning.specs.FileSteps.{FileSteps, file_refused, asked, listed_in}
use Rattle.meaning.specs.Text.{bytes_of}
use Rattle.meaning.specs.Report.{line_text, answer_text, records_text, StepsReport}
use Rattle.theory.specs.Outcomes.Determined.{refused_one, refused_unformed}
use Rattle.theory.specs.Outcomes.Formed.{few_states}
use Rattle.theory.specs.Outcomes.Places.{refused_places}
use Rattle.theory.specs.Outcomes.Steps.{steps_determined}
use Rattle.theory.specs.Files.Right.{bounded}
use Rattle.theory.specs.Files.FileOne.{file_one, accepted_unrefused}
use Rattle.theory.specs.Files.ReportOne.{line}

pub file_steps_one : {f : Input} {list : ℕ} {before after after' : List StepRecord} {a a' : Answer} {count count' : ℕ}
    → FileSteps f list before a count after → FileSteps f list before a' count' after'
    → (a ≡ a') × (count ≡ count') × (after ≡ after')
file_steps_one (file_refused n p r e c k) (file_refused n' p' r' e' c' k') =
    let o = file_one r r' in (e ∙ ap₂ refusal o.0 o.1 ∙ sym e', c ∙ sym c', k ∙ sym k')
file_steps_one (file_refused n p r e c k) (asked a' w' o') = absurd (accepted_unrefused a' r)
file_steps_one (asked a w o) (file_refused n' p' r' e' c' k') = absurd (accepted_unrefused a r')
file_steps_one {f} {list} (asked a w o) (asked a' w' o') =
    let e = steps_determined (with_list list (plain_in f)) o o' in (e.0, e.1, e.3)

-- 12 is at a position of the order, or at 64.
stop_place : {pay : ℕ → ℕ} {b : Bool} {l : Lent} {k : Sets} {number place : ℕ} → l.chain.states ≤ most_states → Stops pay b l k number place → place ≤ most_states
stop_place h (Stops.before_steps f) = omega arith
stop_place h (Stops.in_step p l f e) = omega arith

pub stopped_place : {x : Entry} {pay : ℕ → ℕ} {b : Bool} {l : Lent} {number place : ℕ} → WellFormed x l → Stopped pay b l number place → place ≤ most_states
stopped_place {x} {l = l} formed s = stop_place (few_states x l formed) s.stops

-- A file that is refused has few blocks.
pub file_place : {f : Input} {number place : ℕ} → FileRefused f number place → place ≤ most_states + most_edges
file_place (FileRefused.length_wrong h) = omega arith
file_place (FileRefused.head_wrong number h r) = omega arith
file_place (FileRefused.total_wrong h r e) = omega arith
file_place {f} (FileRefused.block_wrong number b h e l d right r) = omega (arith, (bounded f (right 0 l)).few_blocks)

steps_place : {l : Lent} {before after : List StepRecord} {a : Answer} {count : ℕ} {w : List ℕ} → StepsOutcome l before a count w after
    → a.place ≤ most_states + most_edges
steps_place {l} {a = a} {w = w} s = at s.outcome
  where
    at : Outcome listing l refusal (Stopped (earns listing l) exact l) (ChanceFigure l) a w → a.place ≤ most_states + most_edges
    at (refused number place r e k) = rw e (refused_places number place r).2
    at (stopped number place f t e k) = rw e (omega (arith, stopped_place f t))
    at (answered f t (ChanceFigure.chance p q h e) k) = rw e (omega arith)

pub file_steps_place : {f : Input} {list : ℕ} {before after : List StepRecord} {a : Answer} {count : ℕ} → FileSteps f list before a count after
    → a.place ≤ most_states + most_edges
file_steps_place (file_refused n p r e c k) = rw e (file_place r)
file_steps_place (asked a w o) = steps_place o

pub steps_report_one : {f : Input} {t t' : List ℕ} → StepsReport f t → StepsReport f t' → t ≡ t'
steps_report_one (StepsReport.file_refused n p r e) (StepsReport.file_refused n' p' r' e') = line (file_one r r') e e'
steps_report_one (StepsReport.file_refused n p r e) (StepsReport.chain_refused n' p' a' r' e') = absurd (accepted_unrefused a' r)
steps_report_one (StepsReport.file_refused n p r e) (StepsReport.listed a' f' c' n' w' rs' o' e') = absurd (accepted_unrefused a' r)
steps_report_one (StepsReport.chain_refused n p a r e) (StepsReport.file_refused n' p' r' e') = absurd (accepted_unrefused a r')
steps_report_one (StepsReport.chain_refused n p a r e) (StepsReport.chain_refused n' p' a' r' e') = line (refused_one r r') e e'
steps_report_one (StepsReport.chain_refused n p a r e) (StepsReport.listed a' f' c' n' w' rs' o' e') = absurd (refused_unformed r f')
steps_report_one (StepsReport.listed a g c n w rs o e) (StepsReport.file_refused n' p' r' e') = absurd (accepted_unrefused a r')
steps_report_one (StepsReport.listed a g c n w rs o e) (StepsReport.chain_refused n' p' a' r' e') = absurd (refused_unformed r' g)
steps_report_one {f} (StepsReport.listed a g c n w rs o e) (StepsReport.listed a' g' c' n' w' rs' o' e') =
    let d = steps_determined (listed_in f) o o' in
    e ∙ ap₂ (λ (rs : List StepRecord) (c : Answer). records_text rs ++ line_text (bytes_of "chance ") (answer_text c)) d.3 d.0 ∙ sym e'
