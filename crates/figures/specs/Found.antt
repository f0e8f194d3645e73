-- What is found of a chain: its figures, each with a work table of its own, and its counts.
use Rattle.std.specs.Prelude.{ℕ, List, false, ◌≡◌, Result, Ok, Err}
use Rattle.meaning.specs.Chain.{edge_count}
use Rattle.meaning.specs.Refusal.{Lent}
use Rattle.meaning.specs.Survey.{Survey, SurveyOutcome}
use Rattle.meaning.specs.Outcome.{Answer, refusal, Bounds, no_bounds, ChanceOutcome, BoundsOutcome}
use Rattle.meaning.specs.Block.{Input}
use Rattle.meaning.specs.File.{FileRefused, Accepted, plain_in, paid_in, bare_in}
use Rattle.chain.specs.Refusal.{number_of}
use Rattle.chain.specs.declared.refusal.Refusal.{Refusal}
use Rattle.elimination.specs.Own.{Found}
use Rattle.engines.specs.Answer.{told_chance, told_bounds}
use Rattle.engines.specs.Told.{Rewarded}
use Rattle.figures.specs.declared.answer.Counts.{Counts}
use Rattle.figures.specs.declared.answer.Report.{Report}

-- The counts of a chain: of one that the survey refuses it counts no goals and no live states.
pub record Counted (l : Lent) (r : Counts) : Type 0 where
  pub states : r.states ≡ l.chain.states
  pub edges : r.edges ≡ edge_count l.chain.edges
  pub survey : Survey
  pub outcome : SurveyOutcome false l survey
  pub goals : r.goals ≡ survey.goals
  pub live : r.live ≡ survey.live

-- What is answered of an input: the file's refusal, or what is found of the chain of an accepted file.
pub data FileFound {A : Type 0} (f : Input) (refusal : ℕ → ℕ → A) (Outcome : A → List ℕ → Type 0) (a : A) : Type 0 where
  refused : (number place : ℕ) → FileRefused f number place → a ≡ refusal number place → FileFound f refusal Outcome a
  accepted : Accepted f → Found Outcome a → FileFound f refusal Outcome a

-- The chance, and the bounds.
abbrev pub FileChance : Input → Answer → Type 0
FileChance f = FileFound f refusal (ChanceOutcome (plain_in f))

abbrev pub FileBounds : Input → Bounds → Type 0
FileBounds f = FileFound f no_bounds (BoundsOutcome (plain_in f))

-- All that a report tells of an accepted file.
pub record ReportAsked (f : Input) (r : Report) : Type 0 where
  pub counts : Counted (bare_in f) r.counts
  pub chance : Found (ChanceOutcome (plain_in f)) (told_chance r.chance)
  pub reward : Found (Rewarded (paid_in f)) r.reward
  pub bounds : Found (BoundsOutcome (plain_in f)) (told_bounds r.bounds)

-- What is answered of an input: all that a report tells of the chain of an accepted file, or the file's refusal.
abbrev pub FileReported : Input → Result Report Refusal → Type 0
FileReported f (Ok r) = Accepted f × ReportAsked f r
FileReported f (Err x) = FileRefused f (number_of x.fault) x.place
