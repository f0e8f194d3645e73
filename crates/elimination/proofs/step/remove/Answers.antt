use Prim.Native.Nat.{ℕ}
use mathlib.Core.Path.{◌≡◌}
use lib.ListN.{get_or}
use native.Mathlib.Omega.{arith}
use Rattle.elimination.specs.Table.{part_at}
use Rattle.elimination.proofs.Laws.{packed_held, unpacked_ext}
use Rattle.elimination.proofs.Middle.{loaded}
use Rattle.elimination.proofs.Tables.{lent, length_row, states_row}
use Rattle.elimination.proofs.Removal.{removal, removable, rooms}
use Rattle.elimination.proofs.step.remove.Goals as goal
use Rattle.elimination.proofs.step.remove.Goals.{After-load-pivot}

pub outside-d-requires : goal.outside-d-requires
outside-d-requires c =
    let a = c.args in
    let h = c.requires in
    let w = a.work.now in
    rw (lent a.n a.s _ (c.row_start-a.ensures.row h.1 (omega (arith, h.0.few))).0 w, states_row a.n w h.0.room a.s h.1)
    (h.0.few, h.1, h.0.packed a.s h.1, h.0.fit a.s h.1)

-- The row of s, as it was copied.
copied : (c : After-load-pivot) → (q : ℕ) → get_or c.load-pivot.result q 0 ≡ get_or (part_at c.args.n c.args.work.now c.args.s) q 0
copied c =
    let a = c.args in
    let h = c.requires in
    let w = a.work.now in
    let e = lent a.n a.s _ (c.row_start-a.ensures.row h.1 (omega (arith, h.0.few))).0 w in
    loaded _ _ (omega (arith, length_row a.n w h.0.room a.s h.1, h.0.few)) (rw e at c.load-pivot.ensures)

pub spread-y-requires : goal.spread-y-requires
spread-y-requires c =
    let a = c.args in
    let h = c.requires in
    rw (lent a.n a.s _ (c.row_start-a.ensures.row h.1 (omega (arith, h.0.few))).0 a.work.now) (packed_held (omega arith) (h.0.packed a.s h.1))

pub invariant_of-removal : goal.invariant_of-removal
invariant_of-removal c =
    let a = c.args in
    let h = c.requires in
    let e = lent a.n a.s _ (c.row_start-a.ensures.row h.1 (omega (arith, h.0.few))).0 a.work.now in
    let same = copied (goal.at.invariant_of-removal c).After-load-pivot in
    record { few = h.0.few; removable = removable h.0 h.1 _ same c.outside-d.ensures.1 (rw e at c.spread-y.ensures) }

pub renew_all-requires : goal.renew_all-requires
renew_all-requires c =
    let a = c.args in
    let h = c.requires in
    (h.0, rooms h.0 h.1 _ (copied (goal.at.renew_all-requires c).After-load-pivot))

pub returns : goal.returns
returns c =
    let a = c.args in
    let h = c.requires in
    let w = a.work.now in
    let e = lent a.n a.s _ (c.row_start-a.ensures.row h.1 (omega (arith, h.0.few))).0 w in
    removal a.rounding a.n a.s w h.1 _
    (rw (e, states_row a.n w h.0.room a.s h.1) at c.outside-d.ensures.0) _
    (unpacked_ext a.n _ (part_at a.n w a.s) (copied (goal.at.returns c).After-load-pivot)) c.renew_all.result c.renew_all.ensures
