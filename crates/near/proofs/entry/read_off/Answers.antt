use Rattle.std.proofs.Common.{◌+◌, sym, arith}
use Rattle.near.proofs.Steps.{copy_length, copy_is, copy_cell}
use Rattle.near.proofs.entry.read_off.Goals as goal

pub slice_bounds-total-end : goal.slice_bounds-total-end
slice_bounds-total-end c =
    let p = c.pivot_of-p in
    sym (copy_length c.args.n c.args.start c.args.work.now c.requires.states c.requires.room c.requires.inside p.result p.ensures.0)

pub total-d-requires : goal.total-d-requires
total-d-requires c =
    let p = c.pivot_of-p in
    let l = copy_length c.args.n c.args.start c.args.work.now c.requires.states c.requires.room c.requires.inside p.result p.ensures.0 in
    (omega (arith, c.requires.states, l), (omega arith, omega arith), record { nothing = λ j a b. absurd (omega arith) })

pub bounds-chance-requires : goal.bounds-chance-requires
bounds-chance-requires c =
    let p = c.pivot_of-p in
    let e = copy_cell c.args.n c.args.start c.args.work.now c.requires.states c.requires.room c.requires.inside p.result p.ensures.0 p.ensures.1 in
    let d = rw (copy_is c.args.n c.args.start c.args.work.now c.requires.states c.requires.room c.requires.inside p.result p.ensures.0 p.ensures.1) at c.total-d.ensures in
    rw (e c.args.n (omega (arith, c.requires.inside)), d) (c.requires.goal, c.requires.goal_most, c.requires.few)

pub missing-miss-requires : goal.missing-miss-requires
missing-miss-requires c =
    let p = c.pivot_of-p in
    let e = copy_cell c.args.n c.args.start c.args.work.now c.requires.states c.requires.room c.requires.inside p.result p.ensures.0 p.ensures.1 in
    let d = rw (copy_is c.args.n c.args.start c.args.work.now c.requires.states c.requires.room c.requires.inside p.result p.ensures.0 p.ensures.1) at c.total-d.ensures in
    rw (e (c.args.n + 1) (omega (arith, c.requires.inside)), d) (c.requires.trap, c.requires.trap_most, c.requires.few)

pub returns : goal.returns
returns c =
    let p = c.pivot_of-p in
    let e = copy_cell c.args.n c.args.start c.args.work.now c.requires.states c.requires.room c.requires.inside p.result p.ensures.0 p.ensures.1 in
    let d = rw (copy_is c.args.n c.args.start c.args.work.now c.requires.states c.requires.room c.requires.inside p.result p.ensures.0 p.ensures.1) at c.total-d.ensures in
    (rw (e c.args.n (omega (arith, c.requires.inside)), d) at c.bounds-chance.ensures, rw (e (c.args.n + 1) (omega (arith, c.requires.inside)), d) at c.missing-miss.ensures)
