use mathlib.Core.Path.{◌≡◌, ap, ◌∙◌}
use native.Mathlib.Omega.{arith}
use lib.ListN.{get_or}
use Rattle.elimination.specs.Packed.{targets_of}
use Rattle.elimination.specs.Table.{part_at}
use Rattle.elimination.proofs.Tables.{row_cell}
use Rattle.elimination.proofs.Removal.{row_is}
use Rattle.elimination.proofs.Noting.{counting_none, counting_more, present_bit}
use Rattle.elimination.proofs.log.rows_to.Goals as goal

pub loop-i-init : goal.loop-i-init
loop-i-init c = (counting_none _, omega arith)

pub loop-i-preserved : goal.loop-i-preserved
loop-i-preserved c =
    let z = c.loop-i.invariant in
    let a = c.args in
    let b = c.loop-i-test.true in
    let i = c.loop-i.i in
    let w = a.work.now in
    let h = c.requires in
    let e : targets_of (part_at a.n w i) ≡ get_or w c.row_start.result 0 =
    row_cell a.n w i 0 (omega arith) ∙ ap (λ q. get_or w q 0) (omega (arith, (c.row_start.ensures.row b h.0).0)) in
    (counting_more z.0 (rw (row_is a.n w i b, present_bit (h.3 i b) a.s h.2, e) c.counted-rows.ensures), omega arith)

pub returns : goal.returns
returns c =
    let z = c.loop-i.invariant in
    let e : c.loop-i.i ≡ c.args.n = omega (arith, z.1, c.loop-i-test.false) in
    rw e at z.0.sum
