use Prim.Native.Nat.{◌+◌, ◌<◌}
use mathlib.Core.Path.{ap}
use native.Mathlib.Omega.{arith}
use lib.ListN.{length}
use Rattle.chain.specs.Rising.{Lowest, Others}
use Rattle.elimination.proofs.Fill.{only_le}
use Rattle.elimination.proofs.Along.{written_none, written_all, written_room, written_fits, written_more, blend_none}
use Rattle.elimination.proofs.merge.weights.Goals as goal
use Rattle.elimination.proofs.merge.weights.Goals.{After-cell-v, In-Some}

pub loop-j-init : goal.loop-j-init
loop-j-init c =
    let a = c.args in
    let h = c.requires in
    rw c.into_iter-j-iterator.ensures.into_iter_gives (written_none (blend_none a.s a.d a.w h.3 h.4) (omega arith) h.5)

-- The next state, and what is left then.
low : (c : In-Some) → Lowest c.loop-j.j-iterator.0 c.in-Some.j
low c = c.in-Some.ensures.steps.0

less : (c : In-Some) → Others c.loop-j.j-iterator.0 c.next.new.self.0
less c = c.in-Some.ensures.steps.1

pub cell-v-requires : goal.cell-v-requires
cell-v-requires c =
    let h = c.requires in
    (h.3.fits _, h.1, h.2, h.4.fits _)

room : (c : After-cell-v) → c.loop-j.k < length c.args.part.now
room c = written_room c.loop-j.invariant c.in-Some.ensures.steps.0 _ c.requires.0

pub offset_bounds-part-k : goal.offset_bounds-part-k
offset_bounds-part-k c = omega (arith, room c)

pub bounds-part-k : goal.bounds-part-k
bounds-part-k c = omega (arith, room c)

pub overflow_add-k : goal.overflow_add-k
overflow_add-k c = omega (arith, room (goal.at.overflow_add-k c).After-cell-v, c.some-k.ensures, only_le c.cell-v.result 1)

pub mark-targets-requires : goal.mark-targets-requires
mark-targets-requires c = (low (goal.at.mark-targets-requires c).In-Some).small

pub overflow_add-targets : goal.overflow_add-targets
overflow_add-targets c =
    record { fits = rw c.mark-targets.ensures (written_fits c.loop-j.invariant (low (goal.at.overflow_add-targets c).In-Some) c.cell-v.result) }

pub loop-j-preserved : goal.loop-j-preserved
loop-j-preserved c =
    let at = (goal.at.loop-j-preserved c).In-Some in
    written_more c.loop-j.invariant (low at) (less at) c.cell-v.ensures
    (ap (λ z. c.loop-j.k + z) c.some-k.ensures)
    (ap (λ z. c.loop-j.targets + z) c.mark-targets.ensures)
    (room (goal.at.loop-j-preserved c).After-cell-v)

pub returns : goal.returns
returns c = written_all c.loop-j.invariant c.in-None.ensures.steps.0

pub offset_bounds-x-j : goal.offset_bounds-x-j
offset_bounds-x-j c = omega (arith, (low (goal.at.offset_bounds-x-j c).In-Some).small)

pub bounds-x-j : goal.bounds-x-j
bounds-x-j c = omega (arith, (low (goal.at.bounds-x-j c).In-Some).small)

pub offset_bounds-y-j : goal.offset_bounds-y-j
offset_bounds-y-j c = omega (arith, (low (goal.at.offset_bounds-y-j c).In-Some).small)

pub bounds-y-j : goal.bounds-y-j
bounds-y-j c = omega (arith, (low (goal.at.bounds-y-j c).In-Some).small)
