-- Numbers that are cut off at a cap, digit by digit.
use Prim.Native.Nat.{ℕ, ◌≤◌, ◌<◌}
use mathlib.Core.Path.{◌≡◌, refl}
use mathlib.Core.Logic.{⊎_elim}
use native.Mathlib.Omega.{arith}
use Rattle.theory.specs.Numbers.Sum.{below}
use Rattle.input.specs.Run.{past, Capped, is, beyond}

-- A number stands for itself, and is never above the cap.
pub capped_self : (x : ℕ) → x ≤ past → Capped x x
capped_self x h = ⊎_elim (λ (l : x < past). is l refl) (λ (l : past ≤ x). beyond l (omega arith)) (below x past)

pub capped_few : {x z : ℕ} → Capped x z → x ≤ past
capped_few (is h e) = omega arith
capped_few (beyond h e) = omega arith

-- The exact number, where it is small on either side.
pub capped_small : {x z : ℕ} → Capped x z → x < past → x ≡ z
capped_small (is h e) l = e
capped_small (beyond h e) l = absurd (omega arith)

pub capped_known : {x z : ℕ} → Capped x z → z < past → x ≡ z
capped_known (is h e) l = e
capped_known (beyond h e) l = absurd (omega arith)
