use Rattle.chaintext.proofs.Reading.{ReadTo}
use Rattle.chaintext.proofs.pieces.number.Given as goal

abbrev pub invariant-loop-i : goal.invariant-loop-i
invariant-loop-i l = ReadTo l.line l.at l.limit l.i l.x
