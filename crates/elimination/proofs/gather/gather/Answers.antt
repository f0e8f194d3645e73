use Rattle.survey.specs.Sets.{sets_of}
use Rattle.elimination.proofs.Cells.{gathering_none, gathering_more, gathering_all, gathering_held, gathering_addable}
use Rattle.elimination.proofs.gather.gather.Goals as goal

pub loop-e-init : goal.loop-e-init
loop-e-init c = gathering_none

pub carry-requires : goal.carry-requires
carry-requires c =
    let a = c.args in
    let h = c.requires.0 in
    let l = rw c.count-e-end.ensures at c.loop-e-test.true in
    let s = h.sources _ l in
    gathering_addable a.n (sets_of a.sets) a.edges.now _ _ c.requires.1 _ c.loop-e.invariant h.few
    h.room l s (h.targets _ l) (h.sums _ s)

pub loop-e-preserved : goal.loop-e-preserved
loop-e-preserved c =
    let l = rw c.count-e-end.ensures at c.loop-e-test.true in
    gathering_more c.loop-e.invariant l c.carry.ensures

pub shape_of-work : goal.shape_of-work
shape_of-work c = c.loop-e.invariant.added.kept.len

pub returns : goal.returns
returns c =
    let a = c.args in
    gathering_held a.n (sets_of a.sets) a.edges.now _ _ c.requires.1
    (gathering_all c.loop-e.invariant (rw c.count-e-end.ensures at c.loop-e-test.false))
