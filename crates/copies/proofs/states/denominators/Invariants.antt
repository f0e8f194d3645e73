use Prim.Native.Nat.{◌+◌, ◌-◌}
use Rattle.meaning.specs.Chain.{row_sum}
use Rattle.meaning.specs.Copies.{copies_edges}
use Rattle.copies.specs.Told.{told_plan}
use Rattle.copies.proofs.Growing.{Filled}
use Rattle.copies.proofs.states.denominators.Given as goal

abbrev pub invariant-loop-k : goal.invariant-loop-k
invariant-loop-k l =
    Filled (row_sum (copies_edges (told_plan l.plan))) l.initial.table (l.plan.copies + 2) l.table l.k
