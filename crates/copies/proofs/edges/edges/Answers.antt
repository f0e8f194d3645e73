use native.Mathlib.Omega.{arith}
use Rattle.meaning.specs.Copies.{copies_edges}
use Rattle.copies.specs.Told.{told_plan}
use Rattle.theory.specs.Plans.Formed.{in_range_lem}
use Rattle.theory.specs.Plans.Kinds.{losses_whole, two_whole, three_whole, four_whole}
use Rattle.copies.proofs.Growing.{grown_more}
use Rattle.copies.proofs.edges.edges.Goals as goal

pub overflow_add-finished : goal.overflow_add-finished
overflow_add-finished c = omega (arith, (in_range_lem c.requires.0).few)

pub losses-second-requires : goal.losses-second-requires
losses-second-requires c =
    let r = in_range_lem c.requires.0 in
    (r.few, r.loss_small, omega (arith, r.few))

pub overflow_sub-copies : goal.overflow_sub-copies
overflow_sub-copies c = omega (arith, (in_range_lem c.requires.0).some)

pub rebuilds-third-requires : goal.rebuilds-third-requires
rebuilds-third-requires c =
    let a = c.args.plan in
    let r = in_range_lem c.requires.0 in
    let g = c.losses-second.ensures in
    (omega (arith, r.few), omega (arith, r.few, g.past, g.same, losses_whole (told_plan a)))

pub finishes-fourth-requires : goal.finishes-fourth-requires
finishes-fourth-requires c =
    let a = c.args.plan in
    let r = in_range_lem c.requires.0 in
    let g = grown_more c.losses-second.ensures c.rebuilds-third.ensures in
    (r.few, omega (arith, r.few, g.past, g.same, two_whole (told_plan a)))

pub put-last-requires : goal.put-last-requires
put-last-requires c =
    let a = c.args.plan in
    let g = grown_more (grown_more c.losses-second.ensures c.rebuilds-third.ensures) c.finishes-fourth.ensures in
    omega (arith, (in_range_lem c.requires.0).few, g.past, g.same, three_whole (told_plan a))

pub put-requires : goal.put-requires
put-requires c =
    let a = c.args.plan in
    let g =
    grown_more (grown_more (grown_more c.losses-second.ensures c.rebuilds-third.ensures) c.finishes-fourth.ensures) c.put-last.ensures in
    omega (arith, (in_range_lem c.requires.0).few, g.past, g.same, four_whole (told_plan a))

pub returns : goal.returns
unfolding copies_edges
returns c =
    grown_more
    (grown_more (grown_more (grown_more c.losses-second.ensures c.rebuilds-third.ensures) c.finishes-fourth.ensures) c.put-last.ensures)
    c.put.ensures
