use Prim.Native.Nat.{◌+◌, ◌-◌, ◌/◌, ◌^◌}
use mathlib.Core.Path.{◌≡◌}
use Rattle.meaning.specs.Near.{digits}
use Rattle.decimals.proofs.Growing.{Growing}
use Rattle.decimals.proofs.six_digits.Given as goal

abbrev pub invariant-loop-whole : goal.invariant-loop-whole
invariant-loop-whole l = Growing l.p l.twos l.v l.left l.tens × (l.whole ≡ l.v / 2 ^ l.left)

-- The binary digits that are still to come.
abbrev pub decreases-loop-whole : goal.decreases-loop-whole
decreases-loop-whole l = l.twos + 22 - (digits l.v + (l.twos - l.left))
