use mathlib.Core.Path.{◌∙◌}
use native.Mathlib.Omega.{arith}
use lib.ListN.{length-set}
use borrow.Author.Rules.{rules}
use Rattle.elimination.proofs.Settling.{Ready, weights_fit, others_fit, others_within, topped_length, rounded_squeezable, rounded_squeezed, rounded_whole}
use Rattle.elimination.proofs.row.round.Goals as goal
use Rattle.elimination.proofs.row.round.Goals.{After-shift-k}

-- The part that is rounded.
ready : (c : After-shift-k) → let a = c.args in Ready c.shift-k.result a.e a.t a.part.now
ready c =
    let h = c.requires in
    record { packed = h.1; summable = h.3; ends = h.2; whole = h.4; least = c.shift-k.ensures.0; unpaid = h.5 }

pub lower_weights-l-requires : goal.lower_weights-l-requires
lower_weights-l-requires c = (omega (arith, c.shift-k.ensures.1), weights_fit (ready (goal.at.lower_weights-l-requires c).After-shift-k))

pub overflow_add-q : goal.overflow_add-q
overflow_add-q c =
    omega (arith, others_fit (ready (goal.at.overflow_add-q c).After-shift-k) c.lower_weights-l.ensures)

pub overflow_add-q-2 : goal.overflow_add-q-2
overflow_add-q-2 c =
    omega (arith, others_fit (ready (goal.at.overflow_add-q-2 c).After-shift-k) c.lower_weights-l.ensures)

pub bounds-part-3-2 : goal.bounds-part-3-2
bounds-part-3-2 c = simp length-set (search rules)

pub overflow_sub-part : goal.overflow_sub-part
overflow_sub-part c =
    others_within (ready (goal.at.overflow_sub-part c).After-shift-k) c.lower_weights-l.ensures c.up.ensures

pub bounds-part-4 : goal.bounds-part-4
bounds-part-4 c = simp length-set (search rules)

pub returns-then-l-e : goal.returns-then-l-e
returns-then-l-e c =
    rounded_whole (ready (goal.at.returns-then-l-e c).After-shift-k) c.lower_weights-l.ensures c.up.ensures (c.slice_known-1.given 0).fits c.requires.0 c.if-l-e.true

pub squeeze-requires : goal.squeeze-requires
squeeze-requires c =
    rounded_squeezable (ready (goal.at.squeeze-requires c).After-shift-k) c.lower_weights-l.ensures c.up.ensures (c.slice_known-1.given 0).fits

pub shape_of-part : goal.shape_of-part
shape_of-part c =
    c.squeeze.auto.part ∙ topped_length (ready (goal.at.shape_of-part c).After-shift-k) c.lower_weights-l.ensures c.up.ensures

pub returns : goal.returns
returns c =
    rounded_squeezed (ready (goal.at.returns c).After-shift-k) c.lower_weights-l.ensures c.up.ensures c.requires.0 c.squeeze.ensures
