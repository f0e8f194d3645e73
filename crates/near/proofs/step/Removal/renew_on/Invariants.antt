use Rattle.near.specs.Row.{joined}
use Rattle.near.specs.Step.{RenewedOn}
use Rattle.near.proofs.step.Removal.renew_on.Given as goal

abbrev pub invariant-loop-i : goal.invariant-loop-i
invariant-loop-i l = RenewedOn l.n l.self.s l.self.d (joined l.self.pivot.now) l.from l.i l.initial.work l.work l.rows
