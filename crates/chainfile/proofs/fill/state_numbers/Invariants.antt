use Prim.Native.Nat.{◌+◌}
use Rattle.meaning.specs.Block.{number_at, state_at}
use Rattle.chainfile.specs.Input.{input}
use Rattle.theory.specs.Numbers.Walk.{Walked}
use Rattle.chainfile.proofs.fill.state_numbers.Given as goal

abbrev pub invariant-loop-i : goal.invariant-loop-i
invariant-loop-i l = Walked (λ k. number_at (input l.kept 0) (state_at k + l.offset) l.width) l.initial.table l.i l.table
