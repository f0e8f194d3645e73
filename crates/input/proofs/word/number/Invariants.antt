use Rattle.input.proofs.ReadWord.{ReadTo}
use Rattle.input.proofs.word.number.Given as goal

abbrev pub invariant-loop-byte : goal.invariant-loop-byte
invariant-loop-byte l = ReadTo l.word l.byte-index l.x
