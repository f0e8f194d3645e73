use borrow.Author.Rules.{rules}
use Rattle.showing.proofs.Printing.{none_put, more_put, all_put}
use Rattle.showing.proofs.print.edge_lines.Goals as goal

pub loop-e-init : goal.loop-e-init
loop-e-init c = none_put 103 _

pub loop-e-preserved : goal.loop-e-preserved
loop-e-preserved c = more_put c.loop-e.e _ c.loop-e.invariant c.edge_line.ensures

pub returns : goal.returns
returns c = all_put 103 _ c.loop-e.e c.args.count (search rules) c.loop-e.invariant
