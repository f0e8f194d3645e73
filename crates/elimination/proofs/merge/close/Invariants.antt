use Prim.Native.Nat.{suc, ◌+◌, ◌*◌, ◌<◌, ◌≤◌}
use lib.Dec.{ltb}
use lib.ListN.{get_or}
use Rattle.meaning.specs.Number.{choose}
use Rattle.theory.specs.Numbers.Walk.{Walked}
use Rattle.elimination.proofs.merge.close.Given as goal

abbrev pub invariant-loop-q : goal.invariant-loop-q
invariant-loop-q l =
    Walked (λ k. choose (ltb k l.a) (get_or l.initial.part k 0) (get_or l.initial.part (suc k) 0 * l.d + l.w * get_or l.pivot (suc k) 0)) l.initial.part l.q l.part
    × (l.a ≤ l.q) × (l.q < l.e)
