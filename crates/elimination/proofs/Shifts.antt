-- The shifts of the code: 1 << k is 2 ^ k, and 33 places are enough for a total below 2 ^ 63.
use mathlib.Core.Path.{◌≡◌}
use mathlib.Core.Logic.{⊎_elim}
use Prim.Native.Nat.{ℕ, ◌+◌, ◌*◌, ◌%◌, ◌^◌, ◌≤◌, ◌<◌}
use native.Mathlib.Nat.{mul-le-mul_left, pow-le-pow_right, mod-eq_of_lt, one-mul}
use native.Mathlib.Omega.{arith}
use lib.Pow.{pow-add}
use Rattle.meaning.specs.Chain.{M}
use Rattle.meaning.specs.Row.{up_to}
use Rattle.theory.specs.Numbers.Sum.{same, below}
use Rattle.theory.specs.Numbers.Shift.{pow_whole, up_above, up_least}

pub pow_small : (k : ℕ) → k ≤ 33 → 2 ^ k ≤ 2 ^ 33
pow_small k h = pow-le-pow_right {n = 2} (omega arith) h

pub one_shifted : (k : ℕ) → k ≤ 33 → 1 * 2 ^ k % 2 ^ 64 ≡ 2 ^ k
one_shifted k h = rw (one-mul (2 ^ k)) (mod-eq_of_lt (omega (arith, pow_small k h)))

pub room_left : (t k : ℕ) → t < 2 ^ 63 → k ≤ 33 → M < up_to t k → k < 33
room_left t k h l g =
    ⊎_elim
    (λ (e : k ≡ 33). absurd (let b : up_to t 33 ≤ M = up_least t (2 ^ 33) M (omega arith) (omega arith) in let c : M < up_to t 33 = rw e at g in omega arith))
    (λ (d : k ≡ 33 → ⊥). omega arith)
    (same k 33)

-- A total of m binary digits keeps 32 or more of them while it is shifted by so few places.
pub still_large : (t m j : ℕ) → 2 ^ m ≤ 2 * t + 1 → j + 32 ≤ m → M < up_to t j
still_large t m j h l =
    let a = up_above t (2 ^ j) (pow_whole j) in
    let b : 2 ^ j * 2 ^ 32 ≤ 2 ^ m = rw (← pow-add 2 j 32) (pow-le-pow_right {n = 2} (omega arith) l) in
    ⊎_elim (λ (g : M < up_to t j). g)
    (λ (g : up_to t j ≤ M). absurd (omega (arith, mul-le-mul_left (2 ^ j) g, pow_whole j)))
    (below M (up_to t j))

-- A total of that many binary digits keeps 30 or less of them, one place further on.
pub small_then : (t m k : ℕ) → t < 2 ^ m → m ≤ k + 31 → up_to t (k + 1) ≤ M
small_then t m k h l =
    let a : 2 ^ m ≤ 2 ^ (k + 31) = pow-le-pow_right {n = 2} (omega arith) l in
    up_least t (2 ^ (k + 1)) M (pow_whole (k + 1)) (omega (arith, a, pow-add 2 k 31, pow-add 2 k 1))
