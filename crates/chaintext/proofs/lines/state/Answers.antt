use Rattle.chaintext.proofs.States.{none₂, none₃, none₄, other}
use Rattle.chaintext.proofs.lines.state.Goals as goal

pub returns-then-state-i : goal.returns-then-state-i
returns-then-state-i c = other c.in_ok-state.ensures.told c.if-state-i.true

pub returns-in_err-denominator : goal.returns-in_err-denominator
returns-in_err-denominator c = rw c.from_residual-in_err-denominator.ensures (none₂ c.in_ok-state.ensures.told c.in_err-denominator.ensures)

pub returns-in_err-reward : goal.returns-in_err-reward
returns-in_err-reward c =
    rw c.from_residual-in_err-reward.ensures (none₃ c.in_ok-state.ensures.told c.in_ok-denominator.ensures.told c.in_err-reward.ensures)

pub returns-in_err-goal : goal.returns-in_err-goal
returns-in_err-goal c =
    rw c.from_residual-in_err-goal.ensures
    (none₄ c.in_ok-state.ensures.told c.in_ok-denominator.ensures.told c.in_ok-reward.ensures.told c.in_err-goal.ensures)
