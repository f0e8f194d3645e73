use Rattle.std.proofs.Common.{◌∙◌, arith, length-set}
use Rattle.near.specs.Row.{joined}
use Rattle.near.proofs.Gaps.{spans_blend}
use Rattle.near.proofs.wide.replace.Goals as goal

pub blend-requires : goal.blend-requires
blend-requires c =
    let e = length-set c.args.row.now c.args.by.now.s 0 in
    (omega arith, omega (arith, c.requires.shape.2, e), omega (arith, c.requires.shape.0, e), c.requires.shape.3)

pub blend-requires-2 : goal.blend-requires-2
blend-requires-2 c =
    let e = length-set c.args.row.now c.args.by.now.s 0 in
    let l = c.blend.ensures.len in
    (omega (arith, c.requires.shape.2, e), omega (arith, l, e), omega (arith, c.requires.shape.0, l, e), c.requires.shape.3)

pub shape_of-row : goal.shape_of-row
shape_of-row c =
    c.blend-2.ensures.len ∙ c.blend.ensures.len ∙ length-set c.args.row.now c.args.by.now.s 0

pub returns : goal.returns
returns c =
    let a = c.args in
    let e = length-set a.row.now a.by.now.s 0 in
    spans_blend _ _ _ a.by.now.gap (c.requires.shape.2.0, omega (arith, c.requires.shape.2.1, e)) c.requires.gap_empty.0 a.by.now.d _ (joined a.by.now.pivot.now) c.requires.gap_empty.1
    c.blend.ensures c.blend-2.ensures
