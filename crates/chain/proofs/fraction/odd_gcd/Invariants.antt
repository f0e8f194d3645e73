use Prim.Native.Nat.{◌+◌, ◌%◌}
use mathlib.Core.Path.{◌≡◌}
use Rattle.meaning.specs.Number.{gcd}
use Rattle.chain.proofs.fraction.odd_gcd.Given as goal

abbrev pub invariant-loop-x : goal.invariant-loop-x
invariant-loop-x l = (l.x % 2 ≡ 1) × (l.y % 2 ≡ 1) × (gcd l.x l.y ≡ gcd l.a l.b)

abbrev pub decreases-loop-x : goal.decreases-loop-x
decreases-loop-x l = l.x + l.y
