use Prim.Native.Nat.{ℕ}
use mathlib.Core.Path.{◌≡◌}
use mathlib.Core.List.{List}
use lib.Dec.{eqb}
use Rattle.meaning.specs.Number.{largest}
use Rattle.meaning.specs.Row.{Row}
use Rattle.meaning.specs.Step.{renewed}
use Rattle.meaning.specs.Steps.{taken_out}
use Rattle.elimination.specs.Packed.{unpacked}
use Rattle.elimination.specs.Table.{row_at}
use Rattle.elimination.proofs.Removal.{Renewing}
use Rattle.elimination.proofs.step.Removal.renew_all.Given as goal

-- The divisor that is taken out of row k of the table in w.
abbrev pub taken : ℕ → ℕ → ℕ → Row → List ℕ → ℕ → ℕ
taken n s d p w k = taken_out s d p (eqb k s) (row_at n w k)

abbrev pub invariant-loop-i : goal.invariant-loop-i
invariant-loop-i l =
    Renewing l.self.rounding (λ k. renewed l.self.rounding l.self.n l.self.s l.self.d (unpacked l.self.n l.self.pivot.now) (eqb k l.self.s) (row_at l.self.n l.initial.work k)) l.self.n l.initial.work l.i l.work
    × (l.divisor ≡ largest (taken l.self.n l.self.s l.self.d (unpacked l.self.n l.self.pivot.now) l.initial.work) l.i)
