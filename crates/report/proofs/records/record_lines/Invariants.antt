use Rattle.report.proofs.StepLines.{Lined}
use Rattle.report.proofs.records.record_lines.Given as goal

abbrev pub invariant-loop-i : goal.invariant-loop-i
invariant-loop-i l = Lined l.initial.page l.numbers l.i l.page
