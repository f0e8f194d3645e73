use native.Mathlib.Omega.{arith}
use Rattle.std.proofs.Common.{rules}
use Rattle.meaning.specs.Chain.{M, carried, flow}
use Rattle.look.proofs.Gather.{none, more, all, weight_small}
use Rattle.look.proofs.sums.row_sums.Goals as goal
use Rattle.look.proofs.sums.row_sums.Invariants.{worth}

pub loop-e-init : goal.loop-e-init
loop-e-init c = none _ _ _

pub loop-e-preserved : goal.loop-e-preserved
loop-e-preserved c =
    let edges = c.args.edges.now in
    let small = weight_small edges c.requires.weights_right c.loop-e.e (search rules) in
    more edges (worth edges) M c.loop-e.e (search rules) (omega (arith, small)) _ c.loop-e.invariant _ _ c.from-i.ensures (omega (arith, c.weight.ensures))

pub returns : goal.returns
unfolding flow carried
returns c = all _ _ _ c.loop-e.invariant (search rules)
