use Rattle.near.specs.Walk.{Walked}
use Rattle.near.specs.Gap.{Gone}
use Rattle.near.proofs.walk.eliminate.Given as goal

abbrev pub invariant-loop-s : goal.invariant-loop-s
invariant-loop-s l = Walked l.c l.live l.order l.s-index l.initial.work l.work l.rows × Gone l.c.states l.gap l.work
