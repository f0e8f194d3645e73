use mathlib.Core.Path.{◌≡◌, ◌∙◌}
use Prim.Native.Nat.{◌-◌}
use native.Mathlib.Omega.{arith}
use borrow.Rule.Slice.PartMut.{mid_of}
use Rattle.std.specs.Prelude.{sum}
use Rattle.std.proofs.lemmas.Iterator.{YieldsList-from_slice}
use Rattle.std.proofs.lemmas.Iterator.Consumers.{sum_from_yields_List, fits_from_yields_list}
use Rattle.elimination.specs.Packed.{goal_at, states_of, end_of_part}
use Rattle.elimination.proofs.Stored.{stored_total, sum_cells}
use Rattle.elimination.proofs.row.total.Goals as goal
use Rattle.elimination.proofs.row.total.Goals.{Start}

-- The sum of the numbers from Goal on.
summed : (c : Start) → let p = c.args.part.now in sum (mid_of goal_at (c.args.e - goal_at) p) ≡ Rattle.meaning.specs.Row.total (states_of p) (Rattle.elimination.specs.Packed.unpacked (states_of p) p)
summed c =
    let p = c.args.part.now in
    let h = c.requires.0 in
    rw c.requires.1 (sum_cells _ ∙ stored_total (states_of p) p h.inside h.held)

pub sum-requires-clause-fits : goal.sum-requires-clause-fits
sum-requires-clause-fits c =
    let p = c.args.part.now in
    let h = c.requires.0 in
    fits_from_yields_list c.iter.result _ (YieldsList-from_slice (mid_of goal_at (c.args.e - goal_at) p) cc) (omega (arith, summed (goal.at.sum-requires-clause-fits c).Start, h.bound))

pub returns : goal.returns
returns c =
    let p = c.args.part.now in
    sum_from_yields_List c.iter.result _ c.sum.ensures.ran (YieldsList-from_slice (mid_of goal_at (c.args.e - goal_at) p) cc) ∙ summed (goal.at.returns c).Start
