use Rattle.std.proofs.Common.{rules}
use Rattle.look.proofs.Lacking.{lacking_none, lacking_more, lacking_all}
use Rattle.look.proofs.sums.missing.Goals as goal

pub loop-e-init : goal.loop-e-init
loop-e-init c = lacking_none _ _ c.whole-left.ensures

pub loop-e-preserved : goal.loop-e-preserved
loop-e-preserved c =
    lacking_more _ _ _ c.loop-e.invariant (search rules) c.from-i.ensures c.weight.ensures c.take_out.ensures

pub returns : goal.returns
returns c = lacking_all _ _ c.loop-e.invariant (search rules)
