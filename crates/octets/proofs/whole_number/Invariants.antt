use lib.ListN.{length, get_or}
use Rattle.theory.specs.Numbers.Little.{Gathered}
use Rattle.octets.proofs.whole_number.Given as goal

abbrev pub invariant-loop-byte : goal.invariant-loop-byte
invariant-loop-byte l = Gathered (λ k. get_or l.bytes k 0) (length l.bytes) l.byte-index l.number l.unit
