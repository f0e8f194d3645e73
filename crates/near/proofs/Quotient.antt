-- The quotient of two weights, by their first digits alone.
use Rattle.std.proofs.Common.{◌≡◌, ℕ, ◌+◌, ◌-◌, ◌*◌, ◌/◌, ◌%◌, ◌^◌, ◌<◌, ◌≤◌, sym, ap, ◌∙◌, ap₂, ⊎_elim, zero-mul, arith, pow_pos}
use native.Mathlib.Nat.{mul-div-mul_right}
use Rattle.theory.specs.Numbers.Sum.{below}
use Rattle.meaning.specs.Near.{digits}
use Rattle.near.specs.Word.{value}
use Rattle.theory.specs.Numbers.Sure.{twos_of, quotient}
use Rattle.theory.specs.Numbers.Binary.{has_digits, digits_power, digits_most, digits_mono, digits_shift, zeros_add}

-- A weight that is not 0 has first digits.
pub first_some : (w : ℕ) → 0 < value w → 0 < w % 2 ^ 31
unfolding value
first_some w h =
    ⊎_elim (λ (g : 0 < w % 2 ^ 31). g)
    (λ (g : w % 2 ^ 31 ≤ 0).
    let e : w % 2 ^ 31 ≡ 0 = omega arith in
    absurd (omega (arith, ap (λ z. z * 2 ^ (w / 2 ^ 31)) e, zero-mul (2 ^ (w / 2 ^ 31)))))
    (below 0 (w % 2 ^ 31))

-- A number with zeros behind such that it has 31 digits.
abbrev pub full_of : ℕ → ℕ
full_of m = m * 2 ^ (31 - digits m)

pub full_digits : (m : ℕ) → 0 < m → m < 2 ^ 31 → (2 ^ 30 ≤ full_of m) × (full_of m < 2 ^ 31)
full_digits m h l =
    let e : digits (full_of m) ≡ 31 = digits_shift m (31 - digits m) h ∙ omega (arith, digits_most m 31 l) in
    (digits_power (full_of m) 30 (omega (arith, e)), rw e at (has_digits (full_of m)).0)

pub same_quotient : (x y n d a b : ℕ) → x * a ≡ n * b → y * a ≡ d * b → 0 < a → 0 < b → x / y ≡ n / d
same_quotient x y n d a b e f h k =
    sym (mul-div-mul_right x y h) ∙ ap₂ (λ s t. s / t) e f ∙ mul-div-mul_right n d k

pub quotient_is : (g d : ℕ) → 0 < value g → value g ≤ value d → full_of (g % 2 ^ 31) * 2 ^ 31 / full_of (d % 2 ^ 31) ≡ quotient (value g) (value d)
unfolding value
quotient_is g d h l =
    let m = g % 2 ^ 31 in
    let n = d % 2 ^ 31 in
    let s = first_some g h in
    let t = first_some d (omega arith) in
    let a = digits_shift m (g / 2 ^ 31) s in
    let b = digits_shift n (d / 2 ^ 31) t in
    let c = digits_mono (value g) (value d) l in
    let o = digits_most m 31 (omega arith) in
    let q = digits_most n 31 (omega arith) in
    let k = twos_of (value g) (value d) in
    let u = digits n + d / 2 ^ 31 in
    same_quotient (full_of m * 2 ^ 31) (full_of n) (value g * 2 ^ k) (value d) (2 ^ u) (2 ^ 31)
    (ap (λ z. z * 2 ^ u) (zeros_add m (31 - digits m) 31)
    ∙ zeros_add m (31 - digits m + 31) u
    ∙ ap (λ z. m * 2 ^ z) (omega arith)
    ∙ sym (ap (λ z. z * 2 ^ 31) (zeros_add m (g / 2 ^ 31) k) ∙ zeros_add m (g / 2 ^ 31 + k) 31))
    (zeros_add n (31 - digits n) u ∙ ap (λ z. n * 2 ^ z) (omega arith) ∙ sym (zeros_add n (d / 2 ^ 31) 31))
    (pow_pos u)
    (pow_pos 31)
