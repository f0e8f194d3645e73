-- Bounds on a ratio by powers: each step of a way multiplies it by at most C over A, and few roundings by at most 2.
use Rattle.std.specs.Prelude.{ℕ, zero, suc, ◌+◌, ◌*◌, ◌-◌, ◌^◌, ◌≤◌, ◌<◌, ◌≡◌}
use Rattle.std.proofs.Common.{ap, arith, mul-le-mul, mul-le-mul_left, mul-le-mul_right, pow-suc, pow-add}
use Rattle.std.proofs.Math.Nat.{le_of_mul-le-mul_left, pow-zero, pow-succ', one-le-pow, pow-le-pow_left, pow-le-pow_right}

pub times_pow : (x y l : ℕ) → (x * y) ^ l ≡ x ^ l * y ^ l
times_pow x y zero = rw (pow-zero (x * y), pow-zero x, pow-zero y)
times_pow x y (suc l) = rw (pow-suc (x * y) l, pow-suc x l, pow-suc y l, times_pow x y l) (omega arith)

pub pow_one : (x : ℕ) → x ^ 1 ≡ x
pow_one x = omega (arith, pow-suc x 0, ap (λ z. z * x) (pow-zero x))

-- x over y is at most the power l of C over A, so at most a higher one.
pub ratio_longer : (A C x y l k : ℕ) → A ≤ C → l ≤ k → x * A ^ l ≤ y * C ^ l → x * A ^ k ≤ y * C ^ k
ratio_longer A C x y l k h s b =
    let E : k ≡ l + (k - l) = omega arith in
    rw (E, pow-add A l (k - l), pow-add C l (k - l)) (omega (arith, mul-le-mul b (pow-le-pow_left h (k - l))))

-- By way of a state of total S, of which D counts.
pub ratio_through : (A C x y z D S l k m : ℕ) → A ≤ C → l + k ≤ m → D ≤ S → x * A ^ l ≤ y * C ^ l → S * A ^ k ≤ z * C ^ k
    → D * x * A ^ m ≤ y * z * C ^ m
ratio_through A C x y z D S l k m h s d p q =
    let a : S * x * A ^ (l + k) ≤ y * z * C ^ (l + k) = rw (pow-add A l k, pow-add C l k) (omega (arith, mul-le-mul p q)) in
    omega (arith, ratio_longer A C (S * x) (y * z) (l + k) m h s a, mul-le-mul_right (x * A ^ m) d)

-- A weight z rounded to c times y.
pub ratio_rounded : (e R c A C x y z W l : ℕ) → R < e → 0 < c → 0 < l → c * x ≤ W → e * z ≤ e * (c * y) + R * z → W * A ^ l ≤ z * C ^ l
    → x * ((e - R) * A) ^ l ≤ y * (e * C) ^ l
ratio_rounded e R c A C x y z W l few some h under near b =
    let a : ℕ = e - R in
    let E : e ≡ R + a = omega arith in
    let p : a * z ≤ e * (c * y) = omega (arith, ap (λ k. k * z) E) in
    let q : c * (x * A ^ l * a) ≤ c * (y * C ^ l * e) =
    omega (arith, mul-le-mul_left (a * A ^ l) under, mul-le-mul_left a b, mul-le-mul_left (C ^ l) p) in
    let r : x * A ^ l * a ^ 1 ≤ y * C ^ l * e ^ 1 = rw (pow_one a, pow_one e) (le_of_mul-le-mul_left q some) in
    rw (times_pow a A l, times_pow e C l) (omega (arith, ratio_longer a e (x * A ^ l) (y * C ^ l) 1 l (omega arith) h r))

-- Few roundings make up less than a half.
parts : (e R k : ℕ) → R ≤ e → e * e ^ k ≤ e * (e - R) ^ k + k * R * e ^ k
parts e R zero h = rw (pow-zero e, pow-zero (e - R)) (omega arith)
parts e R (suc k) h =
    let E : e ≡ R + (e - R) = omega arith in
    let less : e - R ≤ e = omega arith in
    rw (pow-succ' e k, pow-succ' (e - R) k)
    (omega (
      arith,
      mul-le-mul_left (e - R) (parts e R k h),
      ap (λ z. z * (e * e ^ k)) E,
      mul-le-mul_left (k * R * e ^ k) less,
    ))

pub rounded_half : (e R k : ℕ) → R < e → 2 * k * R ≤ e → e ^ k ≤ 2 * (e - R) ^ k
rounded_half e R k h l =
    le_of_mul-le-mul_left
    {k = e} (omega (arith, parts e R k (omega arith), mul-le-mul_right (e ^ k) l)) (omega arith)

-- In powers of two.
pow_times : (x b q : ℕ) → (x ^ b) ^ q ≡ x ^ (b * q)
pow_times x b zero = let z : b * 0 ≡ 0 = omega arith in rw (z, pow-zero (x ^ b), pow-zero x)
pow_times x b (suc q) = let z : b * suc q ≡ b * q + b = omega arith in rw (z, pow-add x (b * q) b, pow-suc (x ^ b) q, pow_times x b q)

pub power_twos : (b M q r : ℕ) → 2 * M ≤ 2 ^ b → b * q ≤ r → (2 * M) ^ q ≤ 2 ^ r
power_twos b M q r h l =
    omega (arith, rw (pow_times 2 b q) at (pow-le-pow_left h q), pow-le-pow_right {n = 2} (omega arith) l)

-- A total that is at most 2 ^ a times a number of b binary digits.
pub total_below : (a b w T : ℕ) → T ≤ w * 2 ^ a → w < 2 ^ b → T < 2 ^ (a + b)
total_below a b w T most small = rw (pow-add 2 a b) (omega (arith, mul-le-mul_right (2 ^ a) small, one-le-pow a 2 (omega arith)))
