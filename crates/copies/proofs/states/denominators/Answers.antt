use native.Mathlib.Omega.{arith}
use borrow.Author.Rules.{rules}
use Rattle.theory.specs.Plans.Formed.{in_range_lem}
use Rattle.copies.proofs.Growing.{filled_none, filled_more, filled_all}
use Rattle.copies.proofs.states.denominators.Goals as goal

pub overflow_add-k-end : goal.overflow_add-k-end
overflow_add-k-end c = omega (arith, (in_range_lem c.requires.0).few)

pub loop-k-init : goal.loop-k-init
loop-k-init c = filled_none

pub sum-requires : goal.sum-requires
sum-requires c = (c.requires.0, search rules)

pub loop-k-preserved : goal.loop-k-preserved
loop-k-preserved c =
    filled_more c.loop-k.invariant (search rules) c.sum.ensures
    c.add.ensures

pub returns : goal.returns
returns c = filled_all c.loop-k.invariant (search rules)
