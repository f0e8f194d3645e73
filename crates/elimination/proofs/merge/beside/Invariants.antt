use Prim.Native.Nat.{◌+◌, ◌*◌, ◌<◌, ◌≤◌}
use lib.Dec.{eqb}
use lib.ListN.{get_or}
use Rattle.meaning.specs.Number.{choose}
use Rattle.theory.specs.Numbers.Walk.{Walked}
use Rattle.elimination.proofs.merge.beside.Given as goal

abbrev pub invariant-loop-q : goal.invariant-loop-q
invariant-loop-q l =
    Walked (λ k. choose (eqb k 0) (get_or l.initial.part k 0) (get_or l.initial.part k 0 * l.d + l.w * get_or l.pivot k 0)) l.initial.part l.q l.part
    × (0 < l.q) × (l.q ≤ l.e)
