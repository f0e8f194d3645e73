use Rattle.std.proofs.Common.{◌≡◌, length, ◌∙◌, arith}
use Rattle.meaning.specs.Row.{width}
use Rattle.elimination.specs.Table.{part_at}
use Rattle.elimination.proofs.Tables.{lent, length_row, row_changed}
use Rattle.near.specs.Row.{joined}
use Rattle.near.specs.Step.{renewed_words}
use Rattle.near.proofs.Steps.{renewed_length}
use Rattle.near.proofs.step.Removal.renew_row.Goals as goal

pub renew-requires : goal.renew-requires
renew-requires c =
    let a = c.args in
    let h = c.requires in
    let l = length_row a.n a.work.now h.few_states.1 a.i h.few_states.2 in
    rw (lent a.n a.i _ (c.row_start-a.ensures.row h.few_states.2 h.few_states.0).0 a.work.now)
    record { shape = (omega (arith, l, h.few_states.0), omega (arith, l, h.few_states.3), (h.within.0.0, omega (arith, l, h.within.0.1)), h.few_states.4); gap_empty = (h.within.1, h.within.2) }

pub returns : goal.returns
returns c =
    let a = c.args in
    let h = c.requires in
    let e = rw (lent a.n a.i _ (c.row_start-a.ensures.row h.few_states.2 h.few_states.0).0 a.work.now) at c.renew.ensures in
    let q = renewed_words a.self.now.s a.self.now.d (joined a.self.now.pivot.now) (part_at a.n a.work.now a.i) in
    let l : length q ≡ width a.n = renewed_length a.self.now.s a.self.now.d (joined a.self.now.pivot.now) (part_at a.n a.work.now a.i) ∙ length_row a.n a.work.now h.few_states.1 a.i h.few_states.2 in
    (rw e.0 (row_changed a.n a.work.now h.few_states.1 a.i h.few_states.2 _ (c.row_start-a.ensures.row h.few_states.2 h.few_states.0).0 q l), e.1, e.2)
