use Prim.Native.Nat.{◌+◌}
use native.Mathlib.Omega.{arith}
use Rattle.theory.specs.Plans.Formed.{in_range_lem}
use Rattle.copies.specs.Told.{told_plan}
use Rattle.copies.proofs.Filing.{front_length, zeros_length, from_tables}
use Rattle.copies.proofs.write.tables.Goals as goal

pub overflow_add-states : goal.overflow_add-states
overflow_add-states c = omega (arith, (in_range_lem c.requires).few)

pub denominators-requires : goal.denominators-requires
denominators-requires c = (c.requires, omega (arith, (in_range_lem c.requires).few))

pub edges-end-requires : goal.edges-end-requires
edges-end-requires c = (c.requires, omega arith)

pub rising-requires : goal.rising-requires
rising-requires c = omega (arith, (in_range_lem c.requires).few)

pub overflow_add-plan : goal.overflow_add-plan
overflow_add-plan c = omega (arith, (in_range_lem c.requires).few)

pub slice_bounds-egorstream_write-end : goal.slice_bounds-egorstream_write-end
slice_bounds-egorstream_write-end c = front_length c.denominators.ensures

pub slice_bounds-egorstream_write-end-2 : goal.slice_bounds-egorstream_write-end-2
slice_bounds-egorstream_write-end-2 c = front_length c.edges-end.ensures

pub slice_bounds-egorstream_write-end-3 : goal.slice_bounds-egorstream_write-end-3
slice_bounds-egorstream_write-end-3 c = front_length c.rising.ensures

pub slice_bounds-egorstream_write-end-4 : goal.slice_bounds-egorstream_write-end-4
slice_bounds-egorstream_write-end-4 c =
    zeros_length (c.args.plan.copies + 2) 34 (omega (arith, (in_range_lem c.requires).few))

pub returns : goal.returns
returns c =
    from_tables (told_plan c.args.plan) 34 c.denominators.ensures.written c.edges-end.ensures.written c.rising.ensures.written
    (omega (arith, (in_range_lem c.requires).few)) c.egorstream_write.ensures
