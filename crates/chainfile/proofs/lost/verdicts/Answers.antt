use native.Mathlib.Omega.{arith}
use Rattle.chainfile.proofs.Saving.{none_looked, more_looked, all_looked}
use Rattle.chainfile.proofs.lost.verdicts.Goals as goal

pub loop-b-init : goal.loop-b-init
loop-b-init c = let e = c.state_blocks-b.ensures.0 in none_looked _ (omega arith)

pub loop-b-preserved : goal.loop-b-preserved
loop-b-preserved c =
    let d = c.demanded-b-end.ensures.0 in
    more_looked c.loop-b.invariant (omega (arith, c.requires)) c.by.ensures

pub returns : goal.returns
returns c = all_looked c.loop-b.invariant (omega (arith, c.demanded-b-end.ensures.0))
