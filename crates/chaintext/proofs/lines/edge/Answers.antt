use Rattle.chaintext.proofs.Edges.{none₂, none₃, none₄, none₅}
use Rattle.chaintext.proofs.lines.edge.Goals as goal

pub returns-in_err-to : goal.returns-in_err-to
returns-in_err-to c = rw c.from_residual-in_err-to.ensures (none₂ c.in_ok-from.ensures.told c.in_err-to.ensures)

pub returns-in_err-weight : goal.returns-in_err-weight
returns-in_err-weight c = rw c.from_residual-in_err-weight.ensures (none₃ c.in_ok-from.ensures.told c.in_ok-to.ensures.told c.in_err-weight.ensures)

pub returns-in_err-reward : goal.returns-in_err-reward
returns-in_err-reward c =
    rw c.from_residual-in_err-reward.ensures (none₄ c.in_ok-from.ensures.told c.in_ok-to.ensures.told c.in_ok-weight.ensures.told c.in_err-reward.ensures)

pub returns-then-end-line : goal.returns-then-end-line
returns-then-end-line c =
    none₅ c.in_ok-from.ensures.told c.in_ok-to.ensures.told c.in_ok-weight.ensures.told c.in_ok-reward.ensures.told c.if-end-line.true
