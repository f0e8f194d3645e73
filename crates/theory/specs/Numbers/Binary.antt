-- How many binary digits a number has, and what is left of it where the last digits are cut off.
use Rattle.std.specs.Prelude.{ℕ, zero, suc, ◌+◌, ◌-◌, ◌*◌, ◌/◌, ◌^◌, ◌≤◌, ◌<◌, ◌≡◌}
use Rattle.std.proofs.Common.{sym, ap, ◌∙◌, ⊎_elim, arith, le_trans, le-div_iff_mul-le, mul_assoc, mul-one, div-one, mul_comm, mul-le-mul, mul-le-mul_right, pow_pos, pow_mono, pow-add, shr-shr, shr_lt}
use Rattle.std.proofs.lemmas.Nat.{shl-shr, leading_length}
use Rattle.std.proofs.Math.Pow.{add-lt-pow}
use Rattle.std.specs.Int.Count.{count_leading_zeros}
use Rattle.meaning.specs.Near.{digits}
use Rattle.theory.specs.Numbers.Sum.{below}
use Rattle.theory.specs.Numbers.Trimmed.{Trimmed, kept_trimmed}

pow_above : (x : ℕ) → x < 2 ^ x
pow_above zero = omega arith
pow_above (suc x) = omega (arith, pow_above x)

-- m is how many digits x has.
abbrev pub HasDigits : ℕ → ℕ → Type 0
HasDigits x m = (x < 2 ^ m) × (2 ^ m ≤ 2 * x + 1)

pub has_digits : (x : ℕ) → HasDigits x (digits x)
unfolding digits
has_digits x =
    let l = leading_length x x (pow_above x) in
    let e : l.0 ≡ x - count_leading_zeros x x = omega (arith, l.1) in
    rw (← e) (l.2, l.3)

pub digits_le : (x m n : ℕ) → 2 ^ m ≤ 2 * x + 1 → x < 2 ^ n → m ≤ n
digits_le x m n l h =
    ⊎_elim (λ (g : n < m). absurd (let p : 2 ^ suc n ≤ 2 ^ m = pow_mono g in omega arith)) (λ (g : m ≤ n). g) (below n m)

pub digits_is : (x m : ℕ) → HasDigits x m → digits x ≡ m
digits_is x m l =
    let a = digits_le x m (digits x) l.1 (has_digits x).0 in
    let b = digits_le x (digits x) m (has_digits x).1 l.0 in
    omega arith

pub digits_none : digits 0 ≡ 0
digits_none = digits_is 0 0 (omega arith, omega arith)

-- By a number's size: below 2 ^ m it has at most m digits, and from there on more.
pub digits_most : (x m : ℕ) → x < 2 ^ m → digits x ≤ m
digits_most x m h = digits_le x (digits x) m (has_digits x).1 h

pub digits_least : (x m : ℕ) → 2 ^ m ≤ x → m < digits x
digits_least x m h =
    ⊎_elim
    (λ (g : m < digits x). g)
    (λ (g : digits x ≤ m). absurd (let p : 2 ^ digits x ≤ 2 ^ m = pow_mono g in omega (arith, (has_digits x).0)))
    (below m (digits x))

pub digits_power : (x m : ℕ) → suc m ≤ digits x → 2 ^ m ≤ x
digits_power x m h = let p : 2 ^ suc m ≤ 2 ^ digits x = pow_mono h in omega (arith, (has_digits x).1)

pub digits_some : (x : ℕ) → 0 < digits x → 0 < x
digits_some zero h = absurd (omega (arith, digits_none))
digits_some (suc x) h = omega arith

-- A smaller number has no more digits.
pub digits_mono : (x y : ℕ) → x ≤ y → digits x ≤ digits y
digits_mono x y h = digits_most x (digits y) (omega (arith, (has_digits y).0))

-- A number is at least half of the power of two that it has the digits of.
double_most : (x m : ℕ) → HasDigits x m → 0 < x → 2 ^ m ≤ 2 * x
double_most x zero l h = omega arith
double_most x (suc m) l h = omega (arith, l.1)

pub twice_most : (x : ℕ) → 0 < x → 2 ^ digits x ≤ 2 * x
twice_most x h = double_most x (digits x) (has_digits x) h

-- Zeros behind a number.
pub digits_shift : (p x : ℕ) → 0 < p → digits (p * 2 ^ x) ≡ digits p + x
digits_shift p x h =
    let l = has_digits p in
    let a : suc p * 2 ^ x ≤ 2 ^ digits p * 2 ^ x = mul-le-mul_right (2 ^ x) l.0 in
    let b : 2 ^ digits p * 2 ^ x ≤ 2 * p * 2 ^ x = mul-le-mul_right (2 ^ x) (twice_most p h) in
    digits_is (p * 2 ^ x) (digits p + x)
    (rw (pow-add 2 (digits p) x) (omega (arith, pow_pos x), omega (arith, mul_assoc 2 p (2 ^ x))))

pub zeros_add : (p a b : ℕ) → p * 2 ^ a * 2 ^ b ≡ p * 2 ^ (a + b)
zeros_add p a b = mul_assoc p (2 ^ a) (2 ^ b) ∙ ap (λ z. p * z) (sym (pow-add 2 a b))

pub zeros_split : (p x k : ℕ) → k ≤ x → p * 2 ^ x ≡ p * 2 ^ (x - k) * 2 ^ k
zeros_split p x k h =
    let e : x - k + k ≡ x = omega arith in
    sym (zeros_add p (x - k) k ∙ ap (λ z. p * 2 ^ z) e)

pub zeros_cut : (s k c : ℕ) → s * 2 ^ k / 2 ^ (k + c) ≡ s / 2 ^ c
zeros_cut s k c = sym (shr-shr (s * 2 ^ k) k c) ∙ ap (λ z. z / 2 ^ c) (shl-shr s k)

-- A number without its last k digits.
pub digits_cut : (v k j : ℕ) → digits v ≡ suc j + k → digits (v / 2 ^ k) ≡ suc j
digits_cut v k j e =
    let h : v < 2 ^ (suc j + k) = rw e at (has_digits v).0 in
    let l : 2 ^ j * 2 ^ k ≤ v = rw (← pow-add 2 j k) (digits_power v (j + k) (omega (arith, e))) in
    let m : 2 ^ j ≤ v / 2 ^ k = (le-div_iff_mul-le (pow_pos k)).1 l in
    digits_is (v / 2 ^ k) (suc j) (shr_lt (suc j) k h, omega arith)

pub cut_small : (P k m : ℕ) → digits P ≤ k + m → P / 2 ^ k < 2 ^ m
cut_small P k m h =
    let p : 2 ^ digits P ≤ 2 ^ (m + k) = pow_mono (omega arith) in
    shr_lt m k (omega (arith, (has_digits P).0))

-- What is lost where m + 1 digits are kept is at most one part of 2 ^ m.
pub kept_digits : (m x : ℕ) → let k = digits x - suc m in Trimmed (2 ^ m) 1 x (x / 2 ^ k * 2 ^ k)
kept_digits m x =
    let k = digits x - suc m in
    ⊎_elim
    (λ (h : 0 < k).
    let l : 2 ^ m * 2 ^ k ≤ x = rw (← pow-add 2 m k) (digits_power x (m + k) (omega arith)) in
    rw (mul_comm (x / 2 ^ k) (2 ^ k)) (kept_trimmed (2 ^ m) (2 ^ k) x (pow_pos k) l))
    (λ (h : k ≤ 0).
    let e : k ≡ 0 = omega arith in
    let t : x / 2 ^ k * 2 ^ k ≡ x = rw e (rw (div-one x, mul-one x)) in
    rw t (record { under = omega arith; near = omega arith }))
    (below 0 k)

-- A product, and the sum of two.
pub product_digits : (a b : ℕ) → digits (a * b) ≤ digits a + digits b
product_digits a b =
    digits_most (a * b) (digits a + digits b)
    (rw (pow-add 2 (digits a) (digits b))
    (let h = (has_digits a).0 in
    let l = (has_digits b).0 in
    omega (arith, mul-le-mul h l)))

pub products_digits : (m a b c d : ℕ) → digits a ≤ m → digits b ≤ m → digits c ≤ m → digits d ≤ m → digits (a * b + c * d) ≤ suc (m + m)
products_digits m a b c d ha hb hc hd =
    let p : 2 ^ digits (a * b) ≤ 2 ^ (m + m) = pow_mono (omega (arith, product_digits a b)) in
    let q : 2 ^ digits (c * d) ≤ 2 ^ (m + m) = pow_mono (omega (arith, product_digits c d)) in
    digits_most (a * b + c * d) (suc (m + m))
    (add-lt-pow {a = a * b} {b = c * d} (m + m) (le_trans (has_digits (a * b)).0 p) (le_trans (has_digits (c * d)).0 q))

-- Ten times a number has three or four digits more.
pub ten_most : (x : ℕ) → digits (10 * x) ≤ digits x + 4
ten_most x = digits_most (10 * x) (digits x + 4) (rw (pow-add 2 (digits x) 4) (omega (arith, (has_digits x).0)))

pub ten_least : (x : ℕ) → 0 < x → digits x + 3 ≤ digits (10 * x)
ten_least x h =
    let d = digits x in
    let t : 2 ^ (d - 1) ≤ x = digits_power x (d - 1) (omega (arith, digits_least x 0 h)) in
    let e : d + 3 ≡ d - 1 + 4 = omega (arith, digits_least x 0 h) in
    digits_le (10 * x) (d + 3) (digits (10 * x)) (rw (e, pow-add 2 (d - 1) 4) (omega arith)) (has_digits (10 * x)).0
