use Rattle.elimination.specs.First.{finished, finished_divisor}
use Rattle.elimination.proofs.Packing.{finish_settles, zero_stays}
use Rattle.elimination.proofs.first.finish.Goals as goal

pub pack-requires : goal.pack-requires
pack-requires c =
    let h = c.requires in
    (h.0, h.1.ready c.if-not-alive.false)

pub settle-requires : goal.settle-requires
settle-requires c =
    rw c.pack.auto.part (finish_settles c.requires.1 c.if-not-alive.false c.pack.ensures)

pub returns : goal.returns
unfolding finished finished_divisor
returns c =
    let h = c.requires.1 in
    rw c.if-not-alive.false (rw (c.pack.auto.part, c.pack.ensures.row _ h.size) at c.settle.ensures)

pub returns-then-not-alive : goal.returns-then-not-alive
unfolding finished finished_divisor
returns-then-not-alive c =
    let h = c.requires.1 in
    let e = c.if-not-alive.true in
    rw e (zero_stays _ h.size (h.zero e))
