-- How many digits a number has, by the largest power of ten that it reaches.
use Prim.Native.Nat.{ℕ, zero, suc, max, ◌+◌, ◌*◌, ◌/◌, ◌^◌, ◌≤◌, ◌<◌}
use mathlib.Core.Path.{◌≡◌}
use mathlib.Core.Logic.{⊎_elim}
use native.Mathlib.Nat.{pow-succ', one-le-pow, pow-le-pow_right}
use native.Mathlib.Omega.{arith}
use lib.ListN.{length}
use Rattle.meaning.specs.Text.{decimal}
use Rattle.theory.specs.Numbers.Sum.{below}
use Rattle.theory.specs.Numbers.Decimal.{length_small, length_more, digits}

-- A number from 10 ^ k on has more than k digits.
most : (k x : ℕ) → 10 ^ k ≤ x → k < length (decimal x)
most zero x h = ⊎_elim (λ l. omega (arith, length_small x l)) (λ l. omega (arith, length_more x l)) (below x 10)
most (suc k) x h =
    let p = pow-succ' 10 k in
    let some = one-le-pow k 10 (omega arith) in
    omega (arith, length_more x (omega arith), most k (x / 10) (omega arith))

pub counted : (k x y : ℕ) → y ≡ max x 1 → 10 ^ k ≤ y → y < 10 * 10 ^ k → k + 1 ≡ length (decimal x)
counted k x y e l h =
    ⊎_elim
    (λ (z : x < 1).
    let n : k < 1 = ⊎_elim (λ (q : k < 1). q) (λ (q : 1 ≤ k). absurd (omega (arith, pow-le-pow_right {n = 10} (omega arith) {i = 1} {j = k} q))) (below k 1) in
    omega (arith, length_small x (omega arith)))
    (λ (z : 1 ≤ x). omega (arith, most k x (omega arith), digits k x (omega (arith, pow-succ' 10 k))))
    (below x 1)
