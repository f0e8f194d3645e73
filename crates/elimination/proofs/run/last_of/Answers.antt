use native.Mathlib.Omega.{arith}
use Rattle.elimination.proofs.Tables.{lent, states_row}
use Rattle.elimination.proofs.run.last_of.Goals as goal

pub last-requires : goal.last-requires
last-requires c =
    let a = c.args in
    let h = c.requires in
    rw (lent a.n a.start _ (c.row_start-a.ensures.row c.requires.1 (omega (arith, c.requires.0.few))).0 a.work.now, states_row a.n a.work.now h.0.room a.start h.1)
    (h.0.few, h.1, h.0.packed a.start h.1, h.0.fit a.start h.1)

pub returns : goal.returns
returns c =
    let a = c.args in
    rw (lent a.n a.start _ (c.row_start-a.ensures.row c.requires.1 (omega (arith, c.requires.0.few))).0 a.work.now, states_row a.n a.work.now c.requires.0.room a.start c.requires.1) at c.last.ensures
