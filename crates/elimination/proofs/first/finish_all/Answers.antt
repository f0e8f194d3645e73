use native.Mathlib.Omega.{arith}
use Rattle.elimination.proofs.Removal.{renewing_none, renewing_more, renewing_all, renewing_stop}
use Rattle.elimination.proofs.first.finish_all.Goals as goal

pub loop-i-init : goal.loop-i-init
loop-i-init c = renewing_none

pub finish_row-requires : goal.finish_row-requires
finish_row-requires c =
    let h = c.requires in
    let z = c.loop-i.invariant in
    let b = c.loop-i-test.true in
    (omega (arith, h.room, z.kept.len), h.few, b, rw (c.at.ensures, z.old _ (omega arith) b) (h.gathered _ b))

pub returns-in_err-finish_row : goal.returns-in_err-finish_row
returns-in_err-finish_row c =
    let z = c.loop-i.invariant in
    let b = c.loop-i-test.true in
    rw c.from_residual.ensures (renewing_stop z b (rw (c.at.ensures, z.old _ (omega arith) b) at c.in_err-finish_row.ensures))

pub loop-i-preserved : goal.loop-i-preserved
loop-i-preserved c =
    let z = c.loop-i.invariant in
    let b = c.loop-i-test.true in
    renewing_more z b (rw (c.at.ensures, z.old _ (omega arith) b) at c.in_ok-finish_row.ensures)

pub returns : goal.returns
returns c = renewing_all c.loop-i.invariant (omega arith)
