use Rattle.elimination.proofs.Tables.{lent, states_row}
use Rattle.elimination.proofs.log.columns_of.Goals as goal

pub columns_in-requires : goal.columns_in-requires
columns_in-requires c =
    let a = c.args in
    let h = c.requires in
    rw (lent a.n a.s _ (c.row_start-a.ensures.row h.2 h.0).0 a.work.now, states_row a.n a.work.now h.1 a.s h.2) (h.0, h.2, h.3)

pub returns : goal.returns
returns c =
    let a = c.args in
    let h = c.requires in
    rw (lent a.n a.s _ (c.row_start-a.ensures.row h.2 h.0).0 a.work.now, states_row a.n a.work.now h.1 a.s h.2) at c.columns_in.ensures
