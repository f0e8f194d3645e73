-- A number that is multiplied with ten again and again, with its highest 60 binary digits alone: how near it stays, and the fewest tens that
-- give six digits.
use Rattle.std.specs.Prelude.{ℕ, zero, suc, ◌+◌, ◌-◌, ◌*◌, ◌/◌, ◌^◌, ◌≤◌, ◌<◌, ◌≡◌, refl, Bool, true, false, ltb}
use Rattle.std.proofs.Common.{sym, ap, subst, ⊎_elim, arith, le_trans, mul-le-mul_left, mul-le-mul_right, le-div_iff_mul-le, div-lt_iff_lt-mul, div-mul-le_self, div-one, mul-one, pow-suc, add-zero, zero-add, pow_pos, pow-add, ltb-true, ltb-false}
use Rattle.std.proofs.Math.Nat.{le_of_mul-le-mul_left, lt-mul-div-succ}
use Rattle.meaning.specs.Number.{choose}
use Rattle.meaning.specs.Near.{digits}
use Rattle.meaning.specs.NearText.{highest, grown, whole_part, tens_from, tens_of}
use Rattle.theory.specs.Numbers.Sum.{same, below}
use Rattle.theory.specs.Numbers.Binary.{digits_most, digits_mono, digits_least, digits_power, digits_some, kept_digits, ten_least}

-- The highest 60 digits of a number: as many digits in all, and at most 1 / 2 ^ 59 is lost.
pub highest_below : (x : ℕ) → highest x ≤ x
highest_below x = (kept_digits 59 x).under

highest_near : (x : ℕ) → 2 ^ 59 * x ≤ 2 ^ 59 * highest x + x
highest_near x = omega (arith, (kept_digits 59 x).near)

highest_first : (x m : ℕ) → suc m ≡ digits x → 2 ^ m ≤ highest x
highest_first x m h =
    let s = digits x - 60 in
    ⊎_elim
    (λ (g : 0 < s).
    let a : 2 ^ 59 * 2 ^ s ≤ x = rw (← pow-add 2 59 s) (digits_power x (59 + s) (omega arith)) in
    let q : 2 ^ 59 ≤ x / 2 ^ s = (le-div_iff_mul-le (pow_pos s)).1 a in
    let e : m ≡ 59 + s = omega arith in
    rw (e, pow-add 2 59 s) (mul-le-mul_right (2 ^ s) q))
    (λ (g : s ≤ 0).
    let e : s ≡ 0 = omega arith in
    let t : highest x ≡ x = rw e (rw (div-one x, mul-one x)) in
    rw t (digits_power x m (omega arith)))
    (below 0 s)

highest_digits : (x : ℕ) → 0 < x → digits (highest x) ≡ digits x
highest_digits x h =
    let l = digits_least x 0 h in
    let m : ℕ = digits x - 1 in
    omega (arith, digits_mono (highest x) x (highest_below x), digits_least (highest x) m (highest_first x m (omega arith)))

-- After b tens it is at most p × 10 ^ b, has three binary digits more for each of them, and lost at most b / 2 ^ 59.
pub grown_below : (p b : ℕ) → grown p b ≤ p * 10 ^ b
unfolding grown
grown_below p zero = omega arith
grown_below p (suc b) =
    le_trans (highest_below (10 * grown p b)) (omega (arith, grown_below p b, ap (λ z. p * z) (pow-suc 10 b)))

grown_some : (p b : ℕ) → 0 < p → digits p + 3 * b ≤ digits (grown p b)
unfolding grown
grown_some p zero h = omega arith
grown_some p (suc b) h =
    let ih = grown_some p b h in
    let g : 0 < grown p b = digits_some (grown p b) (omega (arith, ih, digits_least p 0 h)) in
    omega (arith, ih, ten_least (grown p b) g, highest_digits (10 * grown p b) (omega arith))

loses : (a b g x f : ℕ) → x * (a + 1) ≤ g * (a + 1 + b) → (a + 1 + b) * (10 * g) ≤ (a + 1 + b) * f + 10 * g → 10 * x * a ≤ f * (a + 1 + b)
loses a b g x f h n =
    let m : 10 * g * (a + b) ≤ f * (a + 1 + b) = omega arith in
    le_of_mul-le-mul_left {k = a + 1 + b}
    (omega (arith, mul-le-mul_right (a + 1 + b) m, mul-le-mul_right (a + b) h))
    (omega arith)

grown_loses : (d b g x X f : ℕ) → b < d → x * (d - b) ≤ g * d → X ≡ 10 * x → d * (10 * g) ≤ d * f + 10 * g → X * (d - suc b) ≤ f * d
grown_loses d b g x X f l h e n =
    let a = d - suc b in
    let s : d ≡ a + 1 + b = omega arith in
    let r : d - b ≡ a + 1 = omega arith in
    rw e (subst (λ z. 10 * x * a ≤ f * z) (sym s) (loses a b g x f (subst (λ z. x * (a + 1) ≤ g * z) s (rw r at h)) (subst (λ z. z * (10 * g) ≤ z * f + 10 * g) s n)))

pub grown_near : (p b : ℕ) → b ≤ 2 ^ 59 → p * 10 ^ b * (2 ^ 59 - b) ≤ grown p b * 2 ^ 59
unfolding grown
grown_near p zero h = omega arith
grown_near p (suc b) h =
    grown_loses (2 ^ 59) b (grown p b) (p * 10 ^ b) (p * 10 ^ suc b) (highest (10 * grown p b)) h (grown_near p b (omega arith))
    (omega (arith, ap (λ z. p * z) (pow-suc 10 b))) (highest_near (10 * grown p b))

-- Six digits of p / 2 ^ k, rounded down, are at most the fraction.
pub down_sound : (p k b : ℕ) → whole_part p k b * 2 ^ k ≤ p * 10 ^ b
down_sound p k b = le_trans (div-mul-le_self (grown p b) (2 ^ k)) (grown_below p b)

above : (d q b t g K a : ℕ) → 0 < d → (q + 1) * b ≤ d → (q + 1) * t * (d - b) ≤ g * d → g ≤ (a + 1) * K → q * t ≤ (a + 1) * K
above d q b t g K a o l h n =
    let y = d - b in
    let s : d ≡ y + b = omega arith in
    let m : q * b ≤ y = omega arith in
    le_trans (le_of_mul-le-mul_left {k = d} (omega (arith, mul-le-mul_left t m, h, ap (λ z. q * t * z) s)) o) n

-- One more in the last place than those of (q + 1) / 2 ^ k are at least q / 2 ^ k.
pub up_sound : (q k b : ℕ) → b ≤ 2 ^ 59 → (q + 1) * b ≤ 2 ^ 59 → q * 10 ^ b ≤ (whole_part (q + 1) k b + 1) * 2 ^ k
up_sound q k b h l =
    above (2 ^ 59) q b (10 ^ b) (grown (q + 1) b) (2 ^ k) (whole_part (q + 1) k b) (omega arith) l (grown_near (q + 1) b h)
    (omega (arith, lt-mul-div-succ (grown (q + 1) b) (pow_pos k)))

-- The tens that are counted are the fewest with six digits.
abbrev FirstSix : ℕ → ℕ → ℕ → ℕ → Type 0
FirstSix p k b m = (100000 ≤ whole_part p k m) × ((j : ℕ) → b ≤ j → j < m → whole_part p k j < 100000)

tens_step : (f p k b : ℕ) (t : Bool) → ltb (whole_part p k b) 100000 ≡ t
    → (100000 ≤ whole_part p k (suc b + f) → FirstSix p k (suc b) (tens_from f p k (suc b)))
    → 100000 ≤ whole_part p k (b + suc f) → FirstSix p k b (choose t (tens_from f p k (suc b)) b)
tens_step f p k b false e ih h = (ltb-false (whole_part p k b) 100000 e, λ j a l. absurd (omega arith))
tens_step f p k b true e ih h =
    let m = ih (subst (λ z. 100000 ≤ whole_part p k z) (omega arith) h) in (
      m.0,
      λ j a l.
          ⊎_elim
          (λ (q : j ≡ b). rw q (ltb-true (whole_part p k b) 100000 e))
          (λ (d : j ≡ b → ⊥). m.1 j (omega arith) l)
          (same j b),
    )

tens_from_lem : (f p k b : ℕ) → 100000 ≤ whole_part p k (b + f) → FirstSix p k b (tens_from f p k b)
unfolding tens_from
tens_from_lem zero p k b h = (rw add-zero at h, λ j a l. absurd (omega arith))
tens_from_lem (suc f) p k b h = tens_step f p k b (ltb (whole_part p k b) 100000) refl (tens_from_lem f p k (suc b)) h

tens_enough : (p k : ℕ) → 0 < p → 100000 ≤ whole_part p k (0 + (k + 17))
tens_enough p k h =
    rw zero-add
    (let g = grown p (k + 17) in
    let d : suc (17 + k) ≤ digits g = omega (arith, grown_some p (k + 17) h, digits_least p 0 h) in
    let a : 2 ^ 17 * 2 ^ k ≤ g = rw (← pow-add 2 17 k) (digits_power g (17 + k) d) in
    let q : 2 ^ 17 ≤ g / 2 ^ k = (le-div_iff_mul-le (pow_pos k)).1 a in
    omega arith)

module _ (p k : ℕ) (some : 0 < p) where
  pub tens_six : 100000 ≤ whole_part p k (tens_of p k)
  unfolding tens_of
  tens_six = (tens_from_lem (k + 17) p k 0 (tens_enough p k some)).0

  pub tens_least : (j : ℕ) → j < tens_of p k → whole_part p k j < 100000
  unfolding tens_of
  tens_least j h = (tens_from_lem (k + 17) p k 0 (tens_enough p k some)).1 j (omega arith) h

  pub tens_is : (b : ℕ) → 100000 ≤ whole_part p k b → ((j : ℕ) → j < b → whole_part p k j < 100000) → b ≡ tens_of p k
  tens_is b h l =
      ⊎_elim
      (λ (a : b < tens_of p k). absurd (omega (arith, h, tens_least b a)))
      (λ (a : tens_of p k ≤ b).
      ⊎_elim
      (λ (c : tens_of p k < b). absurd (omega (arith, tens_six, l (tens_of p k) c)))
      (λ (c : b ≤ tens_of p k). omega arith)
      (below (tens_of p k) b))
      (below b (tens_of p k))

  -- They are no more than a third of the binary digits, and fewer where p has many binary digits itself.
  tens_least_digits : 0 < tens_of p k → 3 * tens_of p k + digits p ≤ k + 20
  tens_least_digits h =
      let j : ℕ = tens_of p k - 1 in
      let l : grown p j < 100000 * 2 ^ k = (div-lt_iff_lt-mul {y = 100000} (pow_pos k)).0 (tens_least j (omega arith)) in
      let d : digits (grown p j) ≤ 17 + k = digits_most (grown p j) (17 + k) (rw (pow-add 2 17 k) (omega arith)) in
      omega (arith, grown_some p j some)

  pub tens_few : 3 * tens_of p k ≤ k + 19
  tens_few =
      ⊎_elim
      (λ (h : 0 < tens_of p k). omega (arith, tens_least_digits h, digits_least p 0 some))
      (λ (h : tens_of p k ≤ 0). omega arith)
      (below 0 (tens_of p k))

  pub tens_fewer : (j : ℕ) → 2 ^ j ≤ p → p < 2 ^ k → 3 * tens_of p k + j ≤ k + 19
  tens_fewer j h less =
      ⊎_elim
      (λ (t : 0 < tens_of p k). omega (arith, tens_least_digits t, digits_least p j h))
      (λ (t : tens_of p k ≤ 0). omega (arith, digits_most p k less, digits_least p j h))
      (below 0 (tens_of p k))
