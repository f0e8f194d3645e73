use native.Mathlib.Omega.{arith}
use Rattle.elimination.proofs.Cells.{gathering_none, gathering_more}
use Rattle.elimination.proofs.Missing.{completing_small, completing_all}
use Rattle.elimination.proofs.gather.complete_all.Goals as goal

pub loop-i-init : goal.loop-i-init
loop-i-init c = gathering_none

pub complete-requires : goal.complete-requires
complete-requires c =
    let g = c.loop-i.invariant in
    let a = c.args in
    let h = c.requires in
    let l = c.loop-i-test.true in
    (h.few, omega (arith, h.room, g.added.kept.len), l, rw c.at.ensures (completing_small a.n a.live _ g h l))

pub loop-i-preserved : goal.loop-i-preserved
loop-i-preserved c =
    gathering_more c.loop-i.invariant c.loop-i-test.true (rw c.at.ensures at c.complete.ensures)

pub shape_of-work : goal.shape_of-work
shape_of-work c = c.loop-i.invariant.added.kept.len

pub returns : goal.returns
returns c = let a = c.args in completing_all a.n a.live _ c.loop-i.invariant c.loop-i-test.false
