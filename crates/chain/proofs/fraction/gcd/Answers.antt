use Prim.Native.Nat.{ℕ, ◌%◌}
use mathlib.Core.Path.{◌≡◌, sym, ap, ◌∙◌}
use native.Mathlib.Omega.{arith}
use Rattle.meaning.specs.Number.{gcd}
use Rattle.theory.specs.Numbers.Gcd.{gcd_zero, gcd_step, gcd_greatest}
use Rattle.theory.specs.Numbers.Twos.{gcd_swap}
use Rattle.chain.specs.Reduce.{Common}
use Rattle.chain.proofs.fraction.gcd.Goals as goal

common : (a b g : ℕ) → gcd a b ≡ g → Common a b g
common a b g e = record { is = sym e; greatest = rw (← e) (gcd_greatest a b) }

of_zero : (a b : ℕ) → a ≡ 0 → Common a b b
of_zero a b e = common a b b (gcd_swap a b ∙ ap (gcd b) e ∙ gcd_zero b)

by_zero : (a b : ℕ) → b ≡ 0 → Common a b a
by_zero a b e = common a b a (ap (gcd a) e ∙ gcd_zero a)

divides : (a b : ℕ) → a % b ≡ 0 → Common a b b
divides a b e = common a b b (gcd_step a b ∙ ap (gcd b) e ∙ gcd_zero b)

pub returns-then-a-eq0 : goal.returns-then-a-eq0
returns-then-a-eq0 c = of_zero _ _ (omega arith)

pub returns-then-b-eq0 : goal.returns-then-b-eq0
returns-then-b-eq0 c = by_zero _ _ (omega arith)

pub returns-then-r-eq0 : goal.returns-then-r-eq0
returns-then-r-eq0 c = divides _ _ (omega arith)

pub returns : goal.returns
returns c = common _ _ _ (gcd_step _ _ ∙ sym c.whole_gcd.ensures)
