use mathlib.Core.Path.{◌≡◌}
use mathlib.Core.Logic.{⊎_elim}
use borrow.Author.Tests.{eqb-false}
use Rattle.elimination.proofs.Tables.{lent, row_placed, length_row}
use Rattle.elimination.proofs.step.Removal.renew_row.Goals as goal

pub renew-requires : goal.renew-requires
renew-requires c =
    let a = c.args in
    let s = a.self.now in
    let h = c.requires in
    let w = a.work.now in
    rw (lent s.n a.i _ (c.row_start-a.ensures.row h.1 s.few).0 w)
    (h.2, h.3, rw (length_row s.n w h.0 a.i h.1) h.4, λ o. ⊎_elim (λ (e : a.i ≡ s.s). absurd (eqb-false _ _ o e)) (λ t. t) h.5)

pub returns : goal.returns
returns c =
    let a = c.args in
    let s = a.self.now in
    let h = c.requires in
    let w = a.work.now in
    let at = (c.row_start-a.ensures.row h.1 s.few).0 in
    row_placed s.n w h.0 a.i h.1 _ at (rw (lent s.n a.i _ at w) at c.renew.ensures)
