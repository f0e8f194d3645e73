use Prim.Native.Nat.{ℕ, ◌≤◌}
use mathlib.Core.List.{List}
use lib.Dec.{eqb}
use Rattle.meaning.specs.Number.{choose, present}
use Rattle.meaning.specs.Row.{cell}
use Rattle.meaning.specs.Step.{row}
use Rattle.elimination.specs.Table.{table_of}
use Rattle.elimination.proofs.Noting.{Counting}
use Rattle.elimination.proofs.log.rows_to.Given as goal

-- Whether row i counts.
abbrev pub leads : ℕ → ℕ → List ℕ → ℕ → ℕ
leads n s w i = choose (eqb i s) 0 (present (cell (row (table_of n w) i) s))

abbrev pub invariant-loop-i : goal.invariant-loop-i
invariant-loop-i l = Counting (leads l.n l.s l.work) l.i l.rows × (l.i ≤ l.n)
