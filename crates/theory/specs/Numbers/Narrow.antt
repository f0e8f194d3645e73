-- The two fractions of an answer differ by hardly more than twice what the rows may have lost, and their numerators are at most 2 ^ 33.
use Rattle.std.specs.Prelude.{ℕ, ◌+◌, ◌-◌, ◌*◌, ◌^◌, ◌≤◌, ◌<◌, min, ◌≡◌}
use Rattle.std.proofs.Common.{ap, arith, mul-le-mul, mul-le-mul_left, mul-le-mul_right, le-div_iff_mul-le, div-lt_iff_lt-mul, div-mul-le_self, pow_pos, pow-add}
use Rattle.std.proofs.Math.Nat.{le_of_mul-le-mul_left, lt-mul-div-succ}
use Rattle.meaning.specs.Near.{digits}
use Rattle.theory.specs.Numbers.Binary.{has_digits, digits_mono, digits_power, digits_least, digits_shift, twice_most}
use Rattle.theory.specs.Numbers.Sure.{twos_of, quotient, sure, lower_of, upper_of}

-- Of h parts s are sure and u are not.
module _ (h s u : ℕ) (parts : s + u ≡ h) (few : 6 * (u * u) + 16 * u + 8 ≤ h) where
  abbrev wider : ℕ
  wider = s * (h + 2 * u + 4)

  gains : 2 * (h * h * h) + 7 * (h * h) ≤ 2 * (s * wider)
  gains =
      omega (
        arith,
        ap (λ z. z * s) parts,
        ap (λ z. z * u) parts,
        ap (λ z. h * z * s) parts,
        ap (λ z. h * z * u) parts,
        ap (λ z. h * h * z) parts,
        ap (λ z. h * z) parts,
        ap (λ z. s * u * z) parts,
        ap (λ z. u * u * z) parts,
        mul-le-mul_left h few,
      )

  wider_most : wider ≤ h * h + (u + 4) * h
  wider_most = omega (arith, ap (λ z. z * s) parts, ap (λ z. z * u) parts, ap (λ z. h * z) parts)

  wider_times : 2 * (h * wider) ≤ 3 * (h * h * h)
  wider_times =
      let a : 2 * (u + 4) ≤ h = omega arith in
      omega (arith, mul-le-mul_left h wider_most, mul-le-mul_left (h * h) a)

  narrow_by : (q : ℕ) → h ≤ q → ((q + 1) * h + s) * (h * h) + h * wider ≤ q * (s * wider)
  narrow_by q large =
      let a : s ≤ h = omega arith in
      omega (arith, mul-le-mul_left q gains, wider_times, mul-le-mul_left (h * h) large, mul-le-mul_left (h * h) a)

  pub narrow : (q l v : ℕ) → 0 < s * h → h ≤ q → q * s ≤ (l + 1) * h → v * s ≤ (q + 1) * h + s → v * h ≤ l * (h + 2 * u + 4)
  narrow q l v some large a b =
      le_of_mul-le-mul_left {k = s * h} (omega (arith, mul-le-mul_right wider a, mul-le-mul_left (h * h) b, narrow_by q large)) some

-- The quotient has 31 digits or more.
pub quotient_large : (G D : ℕ) → 0 < G → 0 < D → G ≤ 2 * D → 2 ^ 30 ≤ quotient G D
quotient_large G D some whole most =
    let m = digits G - 1 in
    let o : 0 < digits G = digits_least G 0 (omega arith) in
    let f : 2 ^ m ≤ G = digits_power G m (omega arith) in
    let d : digits G ≤ digits D + 1 = omega (arith, digits_mono G (D * 2 ^ 1) (omega arith), digits_shift D 1 whole) in
    let k = twos_of G D in
    let e : m + k ≡ 30 + digits D = omega arith in
    let p : 2 ^ m * 2 ^ k ≡ 2 ^ 30 * 2 ^ digits D = rw (← pow-add 2 m k, ← pow-add 2 30 (digits D), e) in
    (le-div_iff_mul-le {x = 2 ^ 30} whole).1 (omega (arith, p, mul-le-mul_right (2 ^ k) f, (has_digits D).0))

-- The two fractions of an answer from q.
pub narrow_answer : (q rows K : ℕ) → rows ≤ 4096 → 2 ^ 30 ≤ q
    → min (upper_of q (sure rows)) K * 2 ^ 30 ≤ lower_of q (sure rows) * (2 ^ 30 + 4 * rows + 8)
narrow_answer q rows K few large =
    let s = sure rows in
    let u = 2 * rows + 2 in
    let v = upper_of q s in
    let l = lower_of q s in
    let n = narrow (2 ^ 30) s u (omega arith) (omega (arith, mul-le-mul few few)) q l v (omega arith) large
    (omega (arith, lt-mul-div-succ (q * s) {b = 2 ^ 30} (omega arith)))
    (omega (arith, div-mul-le_self ((q + 1) * 2 ^ 30 + s - 1) s)) in
    let e : 2 ^ 30 + 2 * u + 4 ≡ 2 ^ 30 + 4 * rows + 8 = omega arith in
    let t : v * 2 ^ 30 ≤ l * (2 ^ 30 + 4 * rows + 8) = rw e at n in
    omega (arith, t)

-- In parts of 2 ^ 16; and what the upper one is above the lower one.
pub narrow_parts : (v l rows : ℕ) → rows ≤ 4094 → v * 2 ^ 30 ≤ l * (2 ^ 30 + 4 * rows + 8) → v * 2 ^ 16 ≤ l * (2 ^ 16 + 1)
narrow_parts v l rows few h = omega (arith, mul-le-mul_left l few)

pub narrow_apart : (v l rows : ℕ) → v * 2 ^ 30 ≤ l * (2 ^ 30 + 4 * rows + 8) → (v - l) * 2 ^ 30 ≤ l * (4 * rows + 8)
narrow_apart v l rows h = omega arith

-- How large they can be.
pub quotient_small : (G D : ℕ) → 0 < D → G ≤ 2 * D → quotient G D < 2 ^ 32
quotient_small G D whole most =
    let k = twos_of G D in
    let d : digits G ≤ digits D + 1 = omega (arith, digits_mono G (D * 2 ^ 1) (omega arith), digits_shift D 1 whole) in
    let e : digits G + k ≡ 31 + digits D = omega arith in
    let p : 2 ^ digits G * 2 ^ k ≡ 2 ^ 31 * 2 ^ digits D = rw (← pow-add 2 (digits G) k, ← pow-add 2 31 (digits D), e) in
    let a : (G + 1) * 2 ^ k ≤ 2 ^ digits G * 2 ^ k = mul-le-mul_right (2 ^ k) (omega (arith, (has_digits G).0)) in
    (div-lt_iff_lt-mul {k = D} {x = G * 2 ^ k} {y = 2 ^ 32} whole).1 (omega (arith, a, p, twice_most D whole, pow_pos k))

pub upper_small : (q s : ℕ) → q < 2 ^ 32 → 2 ^ 29 < s → upper_of q s ≤ 2 ^ 33
upper_small q s h l =
    let a : upper_of q s < 2 ^ 33 + 1 =
    (div-lt_iff_lt-mul {k = s} {x = (q + 1) * 2 ^ 30 + s - 1} {y = 2 ^ 33 + 1} (omega arith)).1 (omega arith) in
    omega arith

pub lower_small : (q s : ℕ) → q < 2 ^ 32 → s ≤ 2 ^ 30 → lower_of q s < 2 ^ 32
lower_small q s h l = (div-lt_iff_lt-mul {k = 2 ^ 30} {x = q * s} {y = 2 ^ 32} (omega arith)).1 (omega (arith, mul-le-mul_left q l))
