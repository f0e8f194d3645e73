use Prim.Native.Nat.{◌*◌, ◌^◌, ◌<◌}
use mathlib.Core.Path.{◌≡◌}
use Rattle.limit.proofs.at_most.Given as goal

abbrev pub invariant-loop : goal.invariant-loop
invariant-loop l = (0 < l.v) × (l.v ≡ l.x * 10 ^ l.counter)
