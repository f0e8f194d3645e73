use Rattle.survey.specs.Grow.{way}
use Rattle.survey.proofs.Growth.{unchanged, again, all_grown}
use Rattle.survey.proofs.reach.grow.Goals as goal

pub loop-set-init : goal.loop-set-init
loop-set-init c = (unchanged tt, c.pass-larger.ensures)

pub loop-set-preserved : goal.loop-set-preserved
loop-set-preserved c =
    let l = c.loop-set in
    (again (λ z u f. tt) l.invariant.0 l.invariant.1, c.pass-larger-in-loop-set.ensures)

pub returns : goal.returns
returns c =
    let a = c.args in
    let l = c.loop-set in
    all_grown (way a.back a.barrier a.edges.now) a.seed l.set l.larger l.invariant.0 l.invariant.1 c.loop-set-test.false
