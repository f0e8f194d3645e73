-- A number that is multiplied with ten again and again, and compared with another.
use Prim.Native.Nat.{ℕ, ◌+◌, ◌-◌, ◌*◌, ◌/◌, ◌^◌, ◌≤◌, ◌<◌}
use mathlib.Core.Path.{◌≡◌, refl, sym, ap, ◌∙◌}
use mathlib.Core.Bool.{Bool, true, false}
use mathlib.Core.Logic.{⊎_elim}
use native.Mathlib.Omega.{arith}
use native.Mathlib.Nat.{one-le-pow, mul-le-mul_left, mul-le-mul_right, le_of_mul-le-mul_right, mul_assoc}
use lib.Dec.{leb}
use lib.Pow.{pow-add}
use borrow.Author.Tests.{leb-true, leb-false, le-leb, lt-leb}
use Rattle.theory.specs.Numbers.Sum.{below}

ten_some : (n : ℕ) → 0 < 10 ^ n
ten_some n = one-le-pow n 10 (omega arith)

-- A number that is above y / 10 while a ten is left is above y in the end.
pub grown_past : (x k tens y : ℕ) → k < tens → y / 10 < x * 10 ^ k → false ≡ leb (x * 10 ^ tens) y
grown_past x k tens y h l =
    let e : tens ≡ k + 1 + (tens - (k + 1)) = omega arith in
    let p : x * 10 ^ tens ≡ x * 10 ^ k * 10 * 10 ^ (tens - (k + 1)) =
    ap (λ z. x * 10 ^ z) e ∙ ap (λ z. x * z) (pow-add 10 (k + 1) (tens - (k + 1)) ∙ ap (λ z. z * 10 ^ (tens - (k + 1))) (pow-add 10 k 1)) ∙ omega arith in
    let m = mul-le-mul_left (x * 10 ^ k * 10) (ten_some (tens - (k + 1))) in
    sym (lt-leb (x * 10 ^ tens) y (omega (arith, m, p)))

-- A comparison that is the same as another has its answer.
leb_same : (a b c d : ℕ) → (a ≤ b → c ≤ d) → (c ≤ d → a ≤ b) → leb a b ≡ leb c d
leb_same a b c d to from = go (leb a b) refl
  where
    go : (t : Bool) → leb a b ≡ t → t ≡ leb c d
    go true e = sym (le-leb c d (to (leb-true a b e)))
    go false e = sym (lt-leb c d (⊎_elim (λ (h : d < c). h) (λ (h : c ≤ d). absurd (let l = leb-false a b e in let k = from h in omega arith)) (below d c)))

-- The same power of ten on both sides counts for nothing.
pub cancel_left : (a b d t : ℕ) → t ≤ b → leb (d * 10 ^ (b - t)) a ≡ leb (d * 10 ^ b) (a * 10 ^ t)
cancel_left a b d t h =
    let e : b ≡ (b - t) + t = omega arith in
    let z : d * 10 ^ b ≡ d * 10 ^ (b - t) * 10 ^ t = ap (λ k. d * 10 ^ k) e ∙ ap (λ k. d * k) (pow-add 10 (b - t) t) ∙ sym (mul_assoc d _ _) in
    leb_same (d * 10 ^ (b - t)) a (d * 10 ^ b) (a * 10 ^ t) (λ l. rw z (mul-le-mul_right (10 ^ t) l)) (λ l. le_of_mul-le-mul_right {k = 10 ^ t} (rw (← z) l) (ten_some t))

pub cancel_right : (a b d t : ℕ) → b ≤ t → leb d (a * 10 ^ (t - b)) ≡ leb (d * 10 ^ b) (a * 10 ^ t)
cancel_right a b d t h =
    let e : t ≡ (t - b) + b = omega arith in
    let z : a * 10 ^ t ≡ a * 10 ^ (t - b) * 10 ^ b = ap (λ k. a * 10 ^ k) e ∙ ap (λ k. a * k) (pow-add 10 (t - b) b) ∙ sym (mul_assoc a _ _) in
    leb_same d (a * 10 ^ (t - b)) (d * 10 ^ b) (a * 10 ^ t) (λ l. rw z (mul-le-mul_right (10 ^ b) l)) (λ l. le_of_mul-le-mul_right {k = 10 ^ b} (rw (← z) l) (ten_some b))
