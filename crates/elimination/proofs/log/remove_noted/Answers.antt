use mathlib.Core.Path.{sym, ◌∙◌}
use mathlib.Core.Logic.{inl, ⊎_elim}
use borrow.Author.Tests.{eqb-true, eqb-false}
use Rattle.elimination.proofs.Noting.{record_is, logged_more}
use Rattle.elimination.proofs.log.remove_noted.Goals as goal

pub returns-in_err-remove : goal.returns-in_err-remove
returns-in_err-remove c = let z = c.in_err-remove.ensures.0 in rw c.from_residual.ensures (record { kept = z.kept; is = z.is }, λ rs h. h)

pub returns-then-is_empty : goal.returns-then-is_empty
returns-then-is_empty c =
    let z = c.in_ok-remove.ensures.0 in
    (record { kept = z.kept; is = z.is }, λ rs h. inl (eqb-true _ _ (sym c.is_empty.ensures ∙ c.if-is_empty.true)))

pub columns_of-columns-requires : goal.columns_of-columns-requires
columns_of-columns-requires c =
    let h = c.requires in
    (h.0.few, h.0.room, h.1, h.0.packed c.args.s h.1)

pub returns-in_err-divisor : goal.returns-in_err-divisor
returns-in_err-divisor c = let z = c.in_err-divisor.ensures.0 in rw c.from_residual-in_err-divisor.ensures (record { kept = z.kept; is = z.is }, λ rs h. h)

pub note-requires : goal.note-requires
note-requires c = ⊎_elim (λ e. absurd (eqb-false _ _ (sym c.is_empty.ensures ∙ c.if-is_empty.false) e)) (λ h. h) c.requires.2

pub returns : goal.returns
returns c =
    let a = c.args in
    let z = c.in_ok-divisor.ensures in
    let e = record_is a.n a.s a.work.now c.requires.1 c.rows_to-rows.ensures c.columns_of-columns.ensures z.1 in
    (record { kept = z.0.kept; is = z.0.is }, rw e (logged_more (eqb-false _ _ (sym c.is_empty.ensures ∙ c.if-is_empty.false)) c.note.ensures))
