use Prim.Native.Nat.{ℕ}
use Rattle.meaning.specs.Refusal.{OutOfRange}
use Rattle.meaning.specs.Judge.{NumeratorFault, JudgeOutcome}
use Rattle.theory.specs.Numbers.Decide.{holds, fails}
use mathlib.Core.List.{[]}
use Rattle.chain.specs.Given.{with}
use Rattle.look.specs.Least.{least}
use Rattle.look.proofs.Refuse.{handed}
use Rattle.look.proofs.Found.{found, none}
use Rattle.equations.specs.Judge.{told}
use Rattle.equations.proofs.Judging.{denominator_out, numerator_out, table_carries, table_fits, some_broken, none_broken}
use Rattle.equations.proofs.judge.table.Goals as goal
use Rattle.equations.proofs.judge.table.Goals.{Else-out_of_range, After-too_large, In_ok-refuse}

-- The denominator is in range.
whole : (c : Else-out_of_range) → OutOfRange c.args.whole → ⊥
whole c = fails _ c.out_of_range.ensures c.if-out_of_range.false

pub returns-then-out_of_range : goal.returns-then-out_of_range
returns-then-out_of_range c =
    rw (c.from.ensures.0, c.from.ensures.1) (denominator_out c.requires _ (holds _ c.out_of_range.ensures c.if-out_of_range.true))

-- A numerator is looked for in a table with a number for each state.
looked : (c : After-too_large) → (let a = c.args in least (NumeratorFault a.g.now.chain.states a.whole a.shares.now) c.too_large.result)
looked c = rw c.requires.sent.size at c.too_large.ensures

pub returns-in_err-refuse : goal.returns-in_err-refuse
returns-in_err-refuse c =
    let a = c.args in
    let f = looked (goal.at.returns-in_err-refuse c).After-too_large in
    let e = c.in_err-refuse.ensures in
    handed (λ r. JudgeOutcome (with a.g.now [] [] []) a.whole a.shares.now (told r)) _ _ c.from_residual.ensures.1
    (rw e.0 (numerator_out c.requires _ (whole (goal.at.returns-in_err-refuse c).Else-out_of_range) (found _ f e.1)))

-- No numerator is too large.
small : (c : In_ok-refuse) (i : ℕ) → (let a = c.args in NumeratorFault a.g.now.chain.states a.whole a.shares.now i) → ⊥
small c = none _ (rw c.requires.sent.size at c.too_large.ensures) c.in_ok-refuse.ensures

pub flows-carried-requires : goal.flows-carried-requires
flows-carried-requires c =
    table_carries c.requires _ (whole (goal.at.flows-carried-requires c).Else-out_of_range) (small (goal.at.flows-carried-requires c).In_ok-refuse)

pub broken-requires : goal.broken-requires
broken-requires c =
    table_fits c.requires _ (whole (goal.at.broken-requires c).Else-out_of_range) (small (goal.at.broken-requires c).In_ok-refuse)

pub returns-in-Some : goal.returns-in-Some
returns-in-Some c =
    some_broken c.requires _ (whole (goal.at.returns-in-Some c).Else-out_of_range) (small (goal.at.returns-in-Some c).In_ok-refuse) c.flows-carried.ensures
    c.in-Some.ensures

pub returns-in-None : goal.returns-in-None
returns-in-None c =
    none_broken c.requires _ (whole (goal.at.returns-in-None c).Else-out_of_range) (small (goal.at.returns-in-None c).In_ok-refuse) c.flows-carried.ensures
    c.in-None.ensures
