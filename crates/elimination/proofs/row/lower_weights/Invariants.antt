use Prim.Native.Nat.{◌/◌, ◌^◌}
use mathlib.Core.Path.{◌≡◌}
use lib.ListN.{get_or}
use Rattle.meaning.specs.Number.{sum_to}
use Rattle.meaning.specs.Row.{cell, over}
use Rattle.elimination.specs.Filled.{count_to}
use Rattle.theory.specs.Numbers.Walk.{Walked}
use Rattle.elimination.proofs.row.lower_weights.Given as goal

abbrev pub invariant-loop-x : goal.invariant-loop-x
invariant-loop-x l =
    Walked (λ i. get_or l.initial.weights i 0 / 2 ^ l.k) l.initial.weights l.x-index l.weights
    × (l.sum ≡ sum_to (cell (over (2 ^ l.k) l.initial.weights)) l.x-index)
    × (l.some ≡ count_to (cell (over (2 ^ l.k) l.initial.weights)) l.x-index)
