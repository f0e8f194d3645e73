use Prim.Native.Nat.{◌≤◌}
use lib.ListN.{length, get_or}
use Rattle.meaning.specs.Block.{checked_bytes}
use Rattle.fletcher.proofs.Summed.{Summed}
use Rattle.fletcher.proofs.byte_by_byte.Given as goal

abbrev pub invariant-loop-byte : goal.invariant-loop-byte
invariant-loop-byte l = (l.byte-index ≤ length l.block) × Summed l.rule.modulus l.rule.begin (λ j. get_or l.block j 0) checked_bytes l.byte-index l.first l.second
