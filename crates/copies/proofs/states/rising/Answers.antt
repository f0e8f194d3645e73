use mathlib.Core.Path.{refl}
use borrow.Author.Rules.{rules}
use Rattle.copies.proofs.Growing.{filled_none, filled_more, filled_all}
use Rattle.copies.proofs.states.rising.Goals as goal

pub loop-k-init : goal.loop-k-init
loop-k-init c = filled_none

pub loop-k-preserved : goal.loop-k-preserved
loop-k-preserved c = filled_more c.loop-k.invariant (search rules) refl c.add.ensures

pub returns : goal.returns
returns c = filled_all c.loop-k.invariant (search rules)
