use Rattle.std.proofs.Common.{◌∙◌, arith}
use Rattle.near.proofs.Renewed.{rows_beside}
use Rattle.near.proofs.step.Removal.renew_all.Goals as goal

pub renew_on-rows-requires : goal.renew_on-rows-requires
renew_on-rows-requires c =
    let h = c.requires in
    let G = h.cleared.0 in record { few_states = (h.few_states.0, h.few_states.1, h.few_states.2, h.few_states.3, omega arith, omega (arith, G.within)); within = (G.within, λ i a l. G.columns i (omega (arith, G.within)), h.cleared.1) }

pub renew_on-requires : goal.renew_on-requires
renew_on-requires c =
    let h = c.requires in
    let G = h.cleared.0 in
    let A = c.renew_on-rows.ensures in record { few_states = (h.few_states.0, omega (arith, h.few_states.1, A.kept.len), h.few_states.2, h.few_states.3, G.within.1, omega arith); within = (G.within, λ i a l. rw (A.after i (omega (arith, G.within)) l) (G.columns i l), h.cleared.1) }

pub overflow_add-result : goal.overflow_add-result
overflow_add-result c =
    let h = c.requires in
    omega (arith, h.few_states.0, h.cleared.0.within, c.renew_on-rows.ensures.few, c.renew_on.ensures.few)

pub shape_of-work : goal.shape_of-work
shape_of-work c = c.renew_on.ensures.kept.len ∙ c.renew_on-rows.ensures.kept.len

pub returns : goal.returns
returns c = rows_beside c.requires.cleared.0 c.renew_on-rows.ensures c.renew_on.ensures
