use Rattle.std.proofs.Common.{◌≡◌, ℕ, List, length, get_or, sym, ap, ◌∙◌, arith}
use Rattle.near.specs.Row.{least_exponent, settled_words, joined}
use Rattle.near.proofs.Gaps.{empty_settled}
use Rattle.near.proofs.Rows.{lowered_length}
use Rattle.near.proofs.Parts.{rows_alike}
use Rattle.near.proofs.Renewed.{row_cleared, rows_removed}
use Rattle.near.proofs.step.remove_by.Goals as goal

pub settle-requires : goal.settle-requires
settle-requires c =
    let g = c.requires.going.0.within in
    ((g.0, omega (arith, g, c.requires.few_states.3)), c.requires.going.1)

pub total-d-requires : goal.total-d-requires
total-d-requires c =
    let h = c.requires.few_states in
    let g = c.requires.going.0.within in
    let p = c.args.pivot.now in
    let l = lowered_length (least_exponent (λ j. get_or p j 0) (length p)) p in
    rw c.settle.ensures (omega (arith, l, h), (g.0, omega (arith, l, g, h.3)), empty_settled c.requires.going.1 (omega (arith, g, h.3)))

pub parts-p-requires : goal.parts-p-requires
parts-p-requires c =
    let p = c.args.pivot.now in
    let l = lowered_length (least_exponent (λ j. get_or p j 0) (length p)) p in
    rw c.settle.ensures (omega (arith, l, c.requires.few_states.0, c.requires.few_states.3))

pub slice_bounds-by-end : goal.slice_bounds-by-end
slice_bounds-by-end c = sym c.parts-p.ensures.0.room

pub renew_all-requires : goal.renew_all-requires
renew_all-requires c =
    let C = c.clear_row.ensures in
    let pa = c.parts-p.ensures in
    let h = c.requires.few_states in
    let g = c.requires.going.0 in
    let e = empty_settled c.requires.going.1 (omega (arith, g.within, h.3)) in record { few_states = (h.0, omega (arith, h.1, C.kept.len), h.2, pa.0); cleared = (row_cleared C h.1 h.2 g, record { nothing = λ j a b. pa.1 j ∙ ap (λ (l : List ℕ). get_or l j 0) c.settle.ensures ∙ e.nothing j a b }) }

pub shape_of-work : goal.shape_of-work
shape_of-work c = c.renew_all.ensures.kept.len ∙ c.clear_row.ensures.kept.len

pub returns : goal.returns
returns c =
    let pa = c.parts-p in
    let q = settled_words c.args.pivot.now in
    let e : (j : ℕ) → get_or (joined pa.result) j 0 ≡ get_or q j 0 = λ j. pa.ensures.1 j ∙ ap (λ (l : List ℕ). get_or l j 0) c.settle.ensures in
    let z = rows_alike (joined pa.result) q e (rows_removed c.clear_row.ensures c.requires.few_states.1 c.requires.few_states.2 c.renew_all.ensures) in
    rw (c.total-d.ensures, c.settle.ensures) at z
