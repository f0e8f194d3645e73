use Rattle.chaintext.proofs.Orders.{OrderTo}
use Rattle.chaintext.proofs.lines.order.Given as goal

abbrev pub invariant-loop-p : goal.invariant-loop-p
invariant-loop-p l = OrderTo l.line l.n l.initial.order l.order l.at l.p
