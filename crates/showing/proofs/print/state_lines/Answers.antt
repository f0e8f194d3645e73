use borrow.Author.Rules.{rules}
use Rattle.showing.proofs.Printing.{none_put, more_put, all_put}
use Rattle.showing.proofs.print.state_lines.Goals as goal

pub loop-i-init : goal.loop-i-init
loop-i-init c = none_put 93 _

pub loop-i-preserved : goal.loop-i-preserved
loop-i-preserved c = more_put c.loop-i.i _ c.loop-i.invariant c.state_line.ensures

pub returns : goal.returns
returns c = all_put 93 _ c.loop-i.i c.args.opened.now.given.chain.states (search rules) c.loop-i.invariant
