use Rattle.chaintext.proofs.Adding.{order_taken, order_wrong}
use Rattle.chaintext.proofs.turns.order.Goals as goal

pub returns-in_err-order : goal.returns-in_err-order
returns-in_err-order c = λ d es rs r. rw c.from_residual.ensures (order_wrong r c.in_err-order.ensures)

pub returns : goal.returns
returns c = λ d es rs r. order_taken r c.in_ok-order.ensures
