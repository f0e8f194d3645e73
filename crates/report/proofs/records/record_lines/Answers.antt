use borrow.Author.Rules.{rules}
use Rattle.report.proofs.StepLines.{none, more}
use Rattle.report.proofs.records.record_lines.Goals as goal

pub loop-i-init : goal.loop-i-init
loop-i-init c = none (search rules)

pub loop-i-preserved : goal.loop-i-preserved
loop-i-preserved c = more c.loop-i.invariant (search rules) (search rules) c.record_line.ensures
