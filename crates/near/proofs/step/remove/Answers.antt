use Rattle.std.proofs.Common.{sym}
use Rattle.near.proofs.Gaps.{going_set}
use Rattle.near.proofs.Steps.{copy_length, copy_is}
use Rattle.near.proofs.step.remove.Goals as goal

pub slice_bounds-remove_by-end : goal.slice_bounds-remove_by-end
slice_bounds-remove_by-end c =
    sym (copy_length c.args.n c.args.s c.args.work.now c.requires.0 c.requires.1 c.requires.2 c.pivot_of-p.result c.pivot_of-p.ensures.0)

pub remove_by-requires : goal.remove_by-requires
remove_by-requires c =
    let p = c.pivot_of-p in
    let a = c.args in
    let h = c.requires in
    let e = copy_is a.n a.s a.work.now h.0 h.1 h.2 p.result p.ensures.0 p.ensures.1 in record { few_states = (h.0, h.1, h.2, copy_length a.n a.s a.work.now h.0 h.1 h.2 p.result p.ensures.0); going = (h.3, rw e (going_set h.3 h.1 h.2 a.s h.2)) }

pub returns : goal.returns
returns c =
    let p = c.pivot_of-p in
    let e = copy_is c.args.n c.args.s c.args.work.now c.requires.0 c.requires.1 c.requires.2 p.result p.ensures.0 p.ensures.1 in
    rw e at c.remove_by.ensures
