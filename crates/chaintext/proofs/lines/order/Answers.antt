use Rattle.std.proofs.Common.{rules}
use Rattle.chaintext.proofs.Orders.{order_begun, order_stuck, order_more, order_long, order_whole}
use Rattle.chaintext.proofs.lines.order.Goals as goal

pub loop-p-init : goal.loop-p-init
loop-p-init c = order_begun c.in_ok-at.ensures

pub returns-in_err-value : goal.returns-in_err-value
returns-in_err-value c = rw c.from_residual-in_err-value.ensures (order_stuck c.loop-p.invariant (search rules) c.in_err-value.ensures)

pub loop-p-preserved : goal.loop-p-preserved
loop-p-preserved c = order_more c.loop-p.invariant (search rules) (search rules) c.in_ok-value.ensures.told

pub returns-then-at-line : goal.returns-then-at-line
returns-then-at-line c = order_long c.loop-p.invariant c.if-at-line.true (search rules)

pub returns : goal.returns
returns c = order_whole c.loop-p.invariant c.if-at-line.false (search rules) (search rules)
