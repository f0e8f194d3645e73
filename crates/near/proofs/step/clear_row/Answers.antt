use Rattle.std.proofs.Common.{length, replicate, ap, ◌∙◌, arith}
use lib.ListN.{length-replicate}
use Rattle.meaning.specs.Row.{width}
use Rattle.elimination.proofs.Tables.{lent, length_row, row_changed}
use Rattle.near.proofs.step.clear_row.Goals as goal

pub returns : goal.returns
returns c =
    let a = c.args in
    let h = c.requires in
    let at = (c.row_start-a.ensures.row h.2 (omega arith)).0 in
    let l = ap length (lent a.n a.s _ at a.work.now) ∙ length_row a.n a.work.now h.1 a.s h.2 in
    let e = c.clear.ensures ∙ ap (λ z. replicate z 0) l in
    rw e (row_changed a.n a.work.now h.1 a.s h.2 _ at (replicate (width a.n) 0) (length-replicate (width a.n) 0))
