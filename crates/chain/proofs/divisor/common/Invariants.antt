use Prim.Native.Nat.{◌<◌, ◌^◌}
use mathlib.Core.Path.{◌≡◌}
use lib.ListN.{length, drop}
use Rattle.meaning.specs.Row.{gcd_of}
use Rattle.chain.proofs.divisor.common.Given as goal

abbrev pub invariant-loop-j : goal.invariant-loop-j
invariant-loop-j l = (l.j < length l.row) × (0 < l.g) × (l.g < 2 ^ 64) × (l.g ≡ gcd_of (drop l.j l.row))

abbrev pub decreases-loop-j : goal.decreases-loop-j
decreases-loop-j l = l.j
