use mathlib.Core.Path.{sym}
use native.Mathlib.Omega.{arith}
use Rattle.elimination.proofs.Tables.{row_cell}
use Rattle.elimination.proofs.Cells.{changed_cell}
use Rattle.elimination.proofs.gather.add.Goals as goal

pub overflow_add-work : goal.overflow_add-work
overflow_add-work c =
    let a = c.args in
    let h = c.requires in
    rw (c.row_start.ensures.row h.2 (omega arith)).0 (omega (arith, h.4, sym (row_cell a.n a.work.now a.i a.j h.3)))

pub returns : goal.returns
returns c =
    let a = c.args in
    let h = c.requires in
    rw ((c.row_start.ensures.row h.2 (omega arith)).0, sym (row_cell a.n a.work.now a.i a.j h.3))
    (changed_cell a.n a.work.now a.i h.2 a.j h.3 _)
