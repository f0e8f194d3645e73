-- What the planner is handed and what it answers, in the words of `meaning`.
use Rattle.std.specs.Prelude.{ℕ, ◌<◌, Option, Some, None}
use Rattle.meaning.specs.Outcome.{Answer}
use Rattle.meaning.specs.Copies.{Plan as Planning, PlaceFault}
use Rattle.copies.specs.declared.plan.Plan.{Plan}
use Rattle.copies.specs.declared.ask.Planned.{Planned}

abbrev pub told_plan : Plan → Planning
told_plan j = record { copies = j.copies; loss = j.loss; rebuild = j.rebuild; finish = j.finish }

abbrev pub told : Planned → Answer
told a = record { number = a.number; place = a.place; numerator = a.numerator; denominator = a.denominator }

-- The least place of a wrong weight.
pub record LeastWrong (j : Planning) (p : ℕ) : Type 0 where
  pub before : (q : ℕ) → q < p → PlaceFault j q → ⊥
  pub here : PlaceFault j p

abbrev pub least_wrong : Planning → Option ℕ → Type 0
least_wrong j None = (q : ℕ) → PlaceFault j q → ⊥
least_wrong j (Some p) = LeastWrong j p
