use Rattle.std.proofs.Common.{rules}
use Rattle.meaning.specs.Chain.{most_states}
use Rattle.theory.specs.Numbers.Walk.{walk_none, walk_on, walk_size}
use Rattle.look.proofs.Lacking.{lacks_none}
use Rattle.look.proofs.sums.whole.Goals as goal

pub loop-i-init : goal.loop-i-init
loop-i-init c = walk_none

pub loop-i-preserved : goal.loop-i-preserved
loop-i-preserved c = walk_on most_states c.loop-i.invariant (search rules) c.at.ensures

pub returns : goal.returns
returns c =
    let w = c.loop-i.invariant in
    lacks_none _ _ (walk_size most_states w) (λ i h. w.new i (search rules))
