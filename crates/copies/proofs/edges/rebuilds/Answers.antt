use mathlib.Core.Path.{refl}
use native.Mathlib.Omega.{arith}
use borrow.Author.Rules.{rules}
use Rattle.copies.proofs.Growing.{rungs_none, rungs_room, rungs_more, rungs_all}
use Rattle.copies.proofs.edges.rebuilds.Goals as goal

pub loop-i-init : goal.loop-i-init
loop-i-init c = rungs_none (omega arith)

pub put-next-requires : goal.put-next-requires
put-next-requires c = rungs_room c.loop-i.invariant (λ k. refl) (search rules) (search rules)

pub loop-i-preserved : goal.loop-i-preserved
loop-i-preserved c = rungs_more c.loop-i.invariant (search rules) c.put-next.ensures

pub returns : goal.returns
returns c = rungs_all c.loop-i.invariant (search rules)
