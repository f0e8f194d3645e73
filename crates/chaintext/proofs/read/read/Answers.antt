use Rattle.std.proofs.Common.{rules}
use Rattle.chaintext.proofs.Finishing.{progress_none, progress_done, progress_wrong, progress_more, progress_last}
use Rattle.chaintext.proofs.read.read.Goals as goal

pub loop-at-init : goal.loop-at-init
loop-at-init c = progress_none c.requires.1

pub returns-in_default : goal.returns-in_default
returns-in_default c =
    let w = progress_wrong c.loop-at.invariant c.end-end.ensures (search rules) c.step.ensures c.in_default.is in
    record { told = (c.at.ensures.0, rw c.at.ensures.1 w.told.1) }

pub returns-then-end-text : goal.returns-then-end-text
returns-then-end-text c =
    rw c.finish.ensures
    (progress_last c.loop-at.invariant c.end-end.ensures (search rules) c.step.ensures c.in-Some.is c.if-end-text.true)

pub loop-at-preserved : goal.loop-at-preserved
loop-at-preserved c = progress_more c.loop-at.invariant c.end-end.ensures (search rules) c.step.ensures c.in-Some.is (search rules)

pub returns : goal.returns
returns c = rw c.finish-2.ensures (progress_done c.loop-at.invariant (search rules))
