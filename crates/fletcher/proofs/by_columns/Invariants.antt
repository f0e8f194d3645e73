use Rattle.fletcher.proofs.Columns.{Turn}
use Rattle.fletcher.proofs.by_columns.Given as goal

abbrev pub invariant-loop-row : goal.invariant-loop-row
invariant-loop-row l = Turn l.rule.modulus l.rule.begin l.block l.row-iterator.rest.now l.row-iterator.size l.plain l.sums
