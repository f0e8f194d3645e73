use Rattle.std.proofs.Common.{◌≡◌, ◌+◌, ◌*◌, sym, ◌∙◌, ap₂, arith}
use Rattle.near.specs.Word.{word, value}
use Rattle.near.proofs.Gaps.{span_none, span_at, span_more}
use Rattle.near.proofs.Parts.{joined_value}
use Rattle.near.proofs.wide.blend.Goals as goal

pub loop-j-init : goal.loop-j-init
loop-j-init c = span_none

pub cell-requires : goal.cell-requires
cell-requires c =
    let P = c.requires.3 in
    (c.of-by.ensures.1, P.first c.loop-j.j (omega arith), P.behind c.loop-j.j (omega arith), c.of-weight.ensures.1)

pub loop-j-preserved : goal.loop-j-preserved
loop-j-preserved c =
    let l = c.loop-j in
    let a = c.args in
    let d = c.of-by.ensures.0 in
    let w = c.of-weight.ensures.0 in
    span_more l.invariant (omega arith)
    (c.cell.ensures
    ∙ rw (d, w) (ap₂ (λ y z. word (value y * value a.d + value a.w * z)) (span_at l.invariant) (sym (joined_value c.requires.3 l.j (omega arith)))))

pub shape_of-row : goal.shape_of-row
shape_of-row c = c.loop-j.invariant.len

pub returns : goal.returns
returns c =
    let e : c.loop-j.j ≡ c.args.to = omega arith in
    rw e at c.loop-j.invariant
