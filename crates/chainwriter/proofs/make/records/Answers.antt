use Prim.Native.Nat.{◌+◌, ◌*◌, ◌≤◌}
use mathlib.Core.Path.{◌≡◌, refl}
use native.Mathlib.Omega.{arith}
use lib.ListN.{length}
use Rattle.meaning.specs.Block.{records_at, record_size, full_block}
use Rattle.chainwriter.proofs.Making.{stored_outside, stored_stands, no_slots, more_slots, slots_at}
use Rattle.chainwriter.proofs.make.records.Goals as goal
use Rattle.chainwriter.proofs.make.records.Goals.{After-slot-x}

pub loop-i-init : goal.loop-i-init
loop-i-init c = no_slots

-- The block has room for the record.
room : (c : After-slot-x) → let a = c.args in records_at a.b + record_size * c.loop-i.i + record_size ≤ length c.loop-i.buffer
room c = omega (arith, c.loop-i.invariant.outside.size)

pub loop-i-preserved : goal.loop-i-preserved
loop-i-preserved c =
    let here = (goal.at.loop-i-preserved c).After-slot-x in
    let written = c.put_number.ensures in
    more_slots c.loop-i.invariant _ _ refl (stored_outside record_size _ (room here) written _ refl)
    (stored_stands record_size _ (room here) written) c.slot-x.ensures

pub shape_of-buffer : goal.shape_of-buffer
shape_of-buffer c = c.loop-i.invariant.outside.size

pub returns : goal.returns
returns c =
    let e : c.loop-i.i ≡ full_block = omega arith in slots_at e c.loop-i.invariant
