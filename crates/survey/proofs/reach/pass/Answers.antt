use mathlib.Core.Path.{◌≡◌, subst}
use native.Mathlib.Omega.{arith}
use Rattle.survey.specs.Grow.{way, Idle, AllIdle, Larger}
use Rattle.survey.proofs.Growth.{Past, unchanged, one_more, all_past}
use Rattle.survey.proofs.reach.pass.Goals as goal

pub loop-e-init : goal.loop-e-init
loop-e-init c = unchanged (λ e h. absurd (omega arith))

pub loop-e-preserved : goal.loop-e-preserved
loop-e-preserved c =
    let a = c.args in
    let w = way a.back a.barrier a.edges.now in
    one_more w _ c.loop-e.invariant (subst (λ z. Larger w (Idle w z) c.loop-e.larger c.join-larger.result) c.turn.ensures c.join-larger.ensures)

pub returns : goal.returns
returns c =
    let a = c.args in
    let w = way a.back a.barrier a.edges.now in
    let k = c.count-count in
    let e : c.loop-e.e ≡ k.result = omega arith in
    subst (λ n. Larger w (AllIdle w n) a.set c.loop-e.larger) k.ensures
    (all_past w k.result (subst (λ z. Larger w (Past w k.result z) a.set c.loop-e.larger) e c.loop-e.invariant))
