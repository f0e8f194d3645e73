use native.Mathlib.Omega.{arith}
use borrow.Author.Rules.{rules}
use Rattle.showing.proofs.Printing.{numbers_none, numbers_next, numbers_all}
use Rattle.showing.proofs.print.order_numbers.Goals as goal

pub loop-state-init : goal.loop-state-init
loop-state-init c = numbers_none c.args.order.now

pub loop-state-preserved : goal.loop-state-preserved
loop-state-preserved c =
    numbers_next c.loop-state.state-index c.args.order.now (search rules) (omega (arith, c.type_inv.order c.loop-state.state-index)) c.loop-state.invariant c.named.ensures

pub returns : goal.returns
returns c = numbers_all c.loop-state.state-index c.args.order.now (search rules) c.loop-state.invariant
