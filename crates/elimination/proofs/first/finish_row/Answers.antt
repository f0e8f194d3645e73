use native.Mathlib.Omega.{arith}
use Rattle.elimination.proofs.Tables.{lent, row_placed, states_row}
use Rattle.elimination.proofs.first.finish_row.Goals as goal

pub finish-requires : goal.finish-requires
finish-requires c =
    let a = c.args in
    let h = c.requires in
    let w = a.work.now in
    (a.live, rw (lent a.n a.i _ (c.row_start-a.ensures.row h.2 (omega arith)).0 w, states_row a.n w h.0 a.i h.2, c.holds.ensures) h.3)

pub returns : goal.returns
returns c =
    let a = c.args in
    let h = c.requires in
    let w = a.work.now in
    let at = (c.row_start-a.ensures.row h.2 (omega arith)).0 in
    row_placed a.n w h.0 a.i h.2 _ at
    (rw (c.holds.ensures, lent a.n a.i _ at w, states_row a.n w h.0 a.i h.2) at c.finish.ensures)
