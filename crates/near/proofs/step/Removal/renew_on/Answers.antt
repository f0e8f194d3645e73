use Rattle.std.proofs.Common.{◌≡◌, arith}
use Rattle.near.proofs.Renewed.{rows_none, rows_more}
use Rattle.near.proofs.step.Removal.renew_on.Goals as goal

pub loop-i-init : goal.loop-i-init
loop-i-init c = rows_none

pub renew_row-rows-requires : goal.renew_row-rows-requires
renew_row-rows-requires c =
    let h = c.requires in
    let z = c.loop-i.invariant in
    let i = c.loop-i.i in
    let l = c.loop-i-test.true in
    let e = z.after i (omega arith) (omega (arith, l, h.few_states.5)) in record { few_states = (h.few_states.0, omega (arith, h.few_states.1, z.kept.len), omega (arith, l, h.few_states.5), h.few_states.2, h.few_states.3); within = (h.within.0, rw e (h.within.1 i z.ordered l), h.within.2) }

pub overflow_add-rows : goal.overflow_add-rows
overflow_add-rows c =
    let h = c.requires.few_states in
    let z = c.loop-i.invariant in
    omega (arith, h.0, h.5, z.few, c.renew_row-rows.ensures.2)

pub loop-i-preserved : goal.loop-i-preserved
loop-i-preserved c =
    let h = c.requires.few_states in
    let r = c.renew_row-rows.ensures in
    rows_more c.loop-i.invariant (omega (arith, c.loop-i-test.true, h.5)) r.0 r.1 r.2

pub shape_of-work : goal.shape_of-work
shape_of-work c = c.loop-i.invariant.kept.len

pub returns : goal.returns
returns c =
    let e : c.loop-i.i ≡ c.args.to = omega arith in
    rw e at c.loop-i.invariant
