use mathlib.Core.Path.{◌≡◌}
use native.Mathlib.Omega.{arith}
use Rattle.choice.proofs.Members.{gathered_none, gathered_more}
use Rattle.meaning.specs.Chain.{edge_count}
use Rattle.choice.proofs.columns.first.Goals as goal

pub loop-e-init : goal.loop-e-init
loop-e-init c = gathered_none _ _ _ _

pub loop-e-preserved : goal.loop-e-preserved
loop-e-preserved c =
    let l = c.loop-e in gathered_more _ _ _ _ l.e l.invariant c.carry.ensures

pub returns : goal.returns
returns c =
    let l = c.loop-e in
    let e : l.e ≡ edge_count c.args.edges.now = omega (arith, c.count-e-end.ensures) in
    rw e at l.invariant
