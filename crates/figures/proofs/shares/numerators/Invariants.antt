use Prim.Native.Nat.{ℕ, suc}
use mathlib.Core.List.{List}
use Rattle.meaning.specs.Block.{four_byte_number}
use Rattle.theory.specs.Numbers.Walk.{Walked}
use Rattle.figures.proofs.shares.numerators.Given as goal

abbrev pub number : List ℕ → ℕ → ℕ
number shares i = four_byte_number shares (suc i)

abbrev pub invariant-loop-i : goal.invariant-loop-i
invariant-loop-i l = Walked (number l.shares) l.initial.part l.i l.part
