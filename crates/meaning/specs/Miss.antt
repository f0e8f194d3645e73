-- The chance of missing every goal, nearly: what Near says of Goal's weight in the start's last row, said of Trap's.
use Rattle.std.specs.Prelude.{ℕ, ◌≡◌, List, eqb}
use Rattle.meaning.specs.Number.{choose}
use Rattle.meaning.specs.Chain.{Chain, Goal, ToGoal, Live}
use Rattle.meaning.specs.Row.{cell, trap_column}
use Rattle.meaning.specs.Step.{row, Sets, Right}
use Rattle.meaning.specs.Refusal.{Lent, plain}
use Rattle.meaning.specs.Outcome.{Outcome, BoundsStop}
use Rattle.meaning.specs.Near.{near_outside, near_stage, rows_made, Near, near, near_from}

-- From Trap and D of the start's last row; 0 where nothing leads to Trap.
abbrev pub miss_from : ℕ → ℕ → ℕ → Near
miss_from T D rows = choose (eqb T 0) (near 0 0 0 0 0) (near_from T D rows)

abbrev pub miss_live : Chain → Sets → List ℕ → Near
miss_live c k o =
    let z = row (near_stage c k o c.states) c.start in
    miss_from (cell z (trap_column c.states)) (near_outside c.states c.start z) (rows_made c k o c.states)

pub data MissFigure (l : Lent) (a : Near) : Type 0 where
  won : Goal l.chain l.chain.start → a ≡ near 0 0 0 0 0 → MissFigure l a
  lost : (ToGoal l.chain l.chain.start → ⊥) → a ≡ near 0 0 1 1 0 → MissFigure l a
  live : (k : Sets) → Right l.chain k → Live l.chain l.chain.start → a ≡ miss_live l.chain k l.order → MissFigure l a

-- Refused where a near chance is, and never stopped.
abbrev pub MissOutcome : Lent → Near → List ℕ → Type 0
MissOutcome l = Outcome plain l (λ number place. near number place 0 0 0) BoundsStop (MissFigure l)
