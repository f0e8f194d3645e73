use Prim.Native.Nat.{◌/◌, ◌^◌}
use mathlib.Core.Logic.{⊎_elim, inr}
use native.Mathlib.Omega.{arith}
use native.Mathlib.Nat.{le-div_iff_mul-le}
use lib.Pow.{pow_pos}
use Rattle.theory.specs.Numbers.Decide.{compares}
use Rattle.meaning.specs.Refusal.{GoalFault}
use Rattle.look.proofs.shape.goals_wrong.Goals as goal

pub returns-then-n-lt-STATES : goal.returns-then-n-lt-STATES
returns-then-n-lt-STATES c =
    let a = c.args in
    let shifted = le-div_iff_mul-le {x = 1} {y = a.goals} (pow_pos a.n) in
    compares (GoalFault a.n a.goals) 0 (a.goals / 2 ^ a.n) (λ h. inr (omega (arith, shifted.0 h)))
    (⊎_elim (λ z. absurd (c.if-goals-eq0.false z)) (λ h. shifted.1 (omega arith)))
