use mathlib.Core.Path.{◌≡◌}
use lib.ListN.{length}
use Rattle.elimination.specs.Engine.{rounds}
use Rattle.elimination.specs.Log.{Logged}
use Rattle.elimination.specs.Order.{going, records_walked}
use Rattle.elimination.proofs.Turns.{Eliminating}
use Rattle.elimination.proofs.walk.eliminate.Given as goal

abbrev pub invariant-loop-p : goal.invariant-loop-p
invariant-loop-p l =
    let b = rounds l.e.engine in
    let n = l.e.given.chain.states in
    Eliminating b n (going l.e) l.order l.initial.work l.p l.work × Logged l.log (records_walked b n (going l.e) l.order l.initial.work l.p) × (length l.log ≡ length l.initial.log)
