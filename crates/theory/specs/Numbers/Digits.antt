-- Numbers that are given by their digits.
use Prim.Native.Nat.{ℕ, zero, suc, ◌+◌, ◌*◌, ◌/◌, ◌%◌, ◌^◌, ◌≤◌, ◌<◌}
use Rattle.std.specs.Prelude.{◌≡◌}
use Rattle.std.proofs.Common.{sym, ◌∙◌, ⊎_elim, mod-eq_of_lt, pow-add, arith}
use Rattle.std.proofs.Math.Path.{ap}
use Rattle.std.proofs.Math.Nat.{mul-le-mul_right, pow-zero, pow-succ', div-one, div-div-eq-div-mul, div-add-mod, mod-add-div}
use Rattle.meaning.specs.Number.{sum_to, bit}
use Rattle.theory.specs.Numbers.Sum.{below, last_or_below, sum_ext}

-- A leading digit and what is below it are one of each.
lead_one : (x y p q unit : ℕ) → x < unit → y < unit → x + p * unit ≡ y + q * unit → (p ≡ q) × (x ≡ y)
lead_one x y p q unit h k e =
    ⊎_elim
    (λ (l : p < q). absurd (omega (arith, mul-le-mul_right unit l)))
    (λ (l : q ≤ p).
    ⊎_elim
    (λ (m : q < p). absurd (omega (arith, mul-le-mul_right unit m)))
    (λ (m : p ≤ q). let o : p ≡ q = omega arith in (o, omega (arith, ap (λ z. z * unit) o)))
    (below q p))
    (below p q)

module _ (base : ℕ) where
  abbrev number : (ℕ → ℕ) → ℕ → ℕ
  number f n = sum_to (λ i. f i * base ^ i) n

  pub digits_below : (f : ℕ → ℕ) (n : ℕ) → ((i : ℕ) → i < n → f i < base) → number f n < base ^ n
  unfolding sum_to
  digits_below f zero h = omega (arith, pow-zero base)
  digits_below f (suc n) h =
      let d = h n (omega arith) in
      omega (arith, digits_below f n (λ i l. h i (omega arith)), mul-le-mul_right (base ^ n) d, pow-succ' base n)

  -- A number has one row of digits.
  pub digits_one : (f g : ℕ → ℕ) (n : ℕ) → ((i : ℕ) → i < n → f i < base) → ((i : ℕ) → i < n → g i < base) → number f n ≡ number g n
      → (i : ℕ) → i < n → f i ≡ g i
  unfolding sum_to
  digits_one f g zero h k e i l = absurd (omega arith)
  digits_one f g (suc n) h k e i l =
      let h' : (i : ℕ) → i < n → f i < base = λ i l. h i (omega arith) in
      let k' : (i : ℕ) → i < n → g i < base = λ i l. k i (omega arith) in
      let o = lead_one _ _ (f n) (g n) (base ^ n) (digits_below f n h') (digits_below g n k') e in
      last_or_below l (λ z. rw z o.0) (λ m. digits_one f g n h' k' o.1 i m)

  -- The low digits of a number.
  digits_of : (x n : ℕ) → number (λ i. x / base ^ i % base) n + base ^ n * (x / base ^ n) ≡ x
  unfolding sum_to
  digits_of x zero = omega (arith, pow-zero base, ap (λ z. z * (x / z)) (pow-zero base), div-one x)
  digits_of x (suc n) =
      let p = base ^ n in
      let z = x / p in
      let q = x / base ^ suc n in
      let e : z / base ≡ q = div-div-eq-div-mul x p base ∙ ap (λ t. x / t) (omega (arith, pow-succ' base n)) in
      omega (arith, digits_of x n, ap (λ t. p * t) (div-add-mod z base), ap (λ t. p * (base * t)) e, ap (λ t. t * q) (pow-succ' base n))

  pub digits_low : (x n : ℕ) → number (λ i. x / base ^ i % base) n ≡ x % base ^ n
  digits_low x n = omega (arith, digits_of x n, mod-add-div x (base ^ n))

  -- The digits of a number from one of them on.
  pub digits_from : (x at n : ℕ) → number (λ i. x / base ^ (at + i) % base) n ≡ x / base ^ at % base ^ n
  digits_from x at n =
      sum_ext _ _ n
      (λ i h. ap (λ z. z % base * base ^ i) (ap (λ z. x / z) (pow-add base at i) ∙ sym (div-div-eq-div-mul x (base ^ at) (base ^ i))))
      ∙ digits_low (x / base ^ at) n

-- A set of states below n is the sum of its bits.
pub bits_number : (n s : ℕ) → s < 2 ^ n → sum_to (λ i. bit s i * 2 ^ i) n ≡ s
bits_number n s h = digits_low 2 s n ∙ mod-eq_of_lt h
