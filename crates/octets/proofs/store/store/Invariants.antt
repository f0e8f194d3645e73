use Prim.Native.Nat.{◌/◌, ◌%◌, ◌^◌}
use mathlib.Core.Path.{◌≡◌}
use Rattle.theory.specs.Numbers.Walk.{Walked}
use Rattle.octets.proofs.store.store.Given as goal

abbrev pub invariant-loop-byte : goal.invariant-loop-byte
invariant-loop-byte l = Walked (λ i. l.x / 256 ^ i % 256) l.initial.bytes l.byte-index l.bytes × (l.rest ≡ l.x / 256 ^ l.byte-index)
