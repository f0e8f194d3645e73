use mathlib.Core.Path.{◌≡◌, refl}
use native.Mathlib.Omega.{arith}
use Rattle.meaning.specs.Number.{largest}
use Rattle.theory.specs.Numbers.Decide.{fails}
use Rattle.elimination.specs.Packed.{unpacked}
use Rattle.elimination.proofs.Removal.{renewing_none, renewing_more, largest_more, largest_stays}
use Rattle.elimination.proofs.Unchanged.{placed_stays}
use Rattle.elimination.proofs.step.Removal.renew_all.Goals as goal
use Rattle.elimination.proofs.step.Removal.renew_all.Goals.{then-changes+in_ok-renew_row, else-changes}
use Rattle.elimination.proofs.step.Removal.renew_all.Invariants.{taken}

pub loop-i-init : goal.loop-i-init
unfolding largest
loop-i-init c = (renewing_none, refl)

pub loop-i-preserved : goal.loop-i-preserved
loop-i-preserved c =
    let z = c.loop-i.invariant in
    let b = c.loop-i-test.true in
    let s = c.args.self.now in
    let h = c.requires in
    let p = unpacked s.n s.pivot.now in
    let f = taken s.n s.s s.d p c.args.work.now in
    let old = z.0.old _ (omega arith) b in
    elim c.if-changes.branch [
      | then-changes+in_ok-renew_row w ↦
          let e = rw old at w.in_ok-renew_row.ensures in
          rw (w.work-is, w.divisor-is) (renewing_more z.0 b e, largest_more f z.1 e.tested.is.1 w.max-divisor.ensures)
      | else-changes w ↦
          let stays = placed_stays {b = s.rounding} s.d p (rw old (h.0.packed _ b)) (rw old (h.0.fit _ b)) s.removable.state (fails _ c.changes.ensures w.if-changes.false) in
          let e = rw old at stays in
          rw (w.work-is, w.divisor-is) (renewing_more z.0 b e, largest_stays f z.1 e.tested.is.1)
    ]
