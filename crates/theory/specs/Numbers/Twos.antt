-- The twos in a number, and greatest common divisors without them: what the code's gcd goes by.
use Rattle.std.specs.Prelude.{ℕ, zero, suc, ◌+◌, ◌-◌, ◌*◌, ◌/◌, ◌%◌, ◌^◌, ◌≤◌, ◌<◌, min, ◌≡◌, refl}
use Rattle.std.specs.Int.{◌∣◌}
use Rattle.std.proofs.Common.{sym, ap, ◌∙◌, subst, ⊎_elim, arith, div-one, one-mul, mul_assoc, mul_comm, pow-add}
use Rattle.std.proofs.Math.Nat.{dvd_refl, dvd-mul_left_of_dvd, dvd-mul_right_of_dvd, dvd-mul_right, dvd-add_iff_right, dvd_antisymm, dvd_of_mul-dvd-mul_left, mul-dvd-mul_left, mul-div_cancel', div-div-eq-div-mul, pow-succ', le_of_dvd}
use Rattle.std.specs.Int.Bits.{bit_xor, differ, xor_step}
use Rattle.std.proofs.lemmas.Nat.{xor_comm}
use Rattle.std.specs.Int.Count.{count_trailing_zeros, under}
use Rattle.meaning.specs.Number.{gcd}
use Rattle.theory.specs.Numbers.Sum.{below}
use Rattle.theory.specs.Numbers.Shift.{pow_whole}
use Rattle.theory.specs.Numbers.Gcd.{gcd_greatest, greatest_one}

pub gcd_swap : (a b : ℕ) → gcd a b ≡ gcd b a
gcd_swap a b =
    let g = gcd_greatest b a in
    greatest_one a b _ _ (gcd_greatest a b) (record { left = g.right; right = g.left; most = λ k p q. g.most k q p })

pub gcd_scale : (c x y : ℕ) → 0 < c → gcd (c * x) (c * y) ≡ c * gcd x y
gcd_scale c x y h =
    let g = gcd_greatest x y in
    let d = gcd_greatest (c * x) (c * y) in
    let e = mul-div_cancel' c (d.most c (dvd-mul_right c x) (dvd-mul_right c y)) in
    let part = gcd (c * x) (c * y) / c in
    dvd_antisymm
    (subst (λ z. z ∣ c * gcd x y) e
    (mul-dvd-mul_left part c
    (g.most part
    (dvd_of_mul-dvd-mul_left part h (subst (λ z. z ∣ c * x) (sym e) d.left))
    (dvd_of_mul-dvd-mul_left part h (subst (λ z. z ∣ c * y) (sym e) d.right)))))
    (d.most (c * gcd x y) (mul-dvd-mul_left _ c g.left) (mul-dvd-mul_left _ c g.right))

pub gcd_self : (a : ℕ) → gcd a a ≡ a
gcd_self a = dvd_antisymm (gcd_greatest a a).left ((gcd_greatest a a).most a (dvd_refl a) (dvd_refl a))

gcd_more : (a b : ℕ) → gcd a b ≡ gcd a (a + b)
gcd_more a b =
    let g = gcd_greatest a (a + b) in
    greatest_one a b _ _ (gcd_greatest a b)
    (record {
      left = g.left;
      right = (dvd-add_iff_right _ g.left).1 g.right;
      most = λ k p q. g.most k p ((dvd-add_iff_right k p).0 q);
    })

-- A divisor of an odd number has no twos to give.
odd_divides : (k x y : ℕ) → x % 2 ≡ 1 → k ∣ x → k ∣ 2 * y → k ∣ y
odd_divides k x y o p q =
    let e : x * y ≡ 2 * y * (x / 2) + y = let d : x ≡ 2 * (x / 2) + 1 = omega arith in omega (arith, ap (λ z. z * y) d) in
    (dvd-add_iff_right k (dvd-mul_right_of_dvd k q (x / 2))).1 (subst (λ z. k ∣ z) e (dvd-mul_right_of_dvd k p y))

odd_double : (x y : ℕ) → x % 2 ≡ 1 → gcd x (2 * y) ≡ gcd x y
odd_double x y o =
    let g = gcd_greatest x y in
    greatest_one x (2 * y) _ _ (gcd_greatest x (2 * y))
    (record { left = g.left; right = dvd-mul_left_of_dvd _ g.right 2; most = λ k p q. g.most k p (odd_divides k x y o p q) })

pow_double : (t y : ℕ) → 2 ^ suc t * y ≡ 2 * (2 ^ t * y)
pow_double t y = ap (λ z. z * y) (pow-succ' 2 t) ∙ mul_assoc 2 (2 ^ t) y

pub odd_twos : (t x y : ℕ) → x % 2 ≡ 1 → gcd x (2 ^ t * y) ≡ gcd x y
odd_twos zero x y o = ap (gcd x) (one-mul y)
odd_twos (suc t) x y o = ap (gcd x) (pow_double t y) ∙ odd_double x (2 ^ t * y) o ∙ odd_twos t x y o

-- n has t twos, fewer than k: what is left without them is odd.
pub record Twos (k n t : ℕ) : Type 0 where
  pub whole : 2 ^ t * (n / 2 ^ t) ≡ n
  pub odd : n / 2 ^ t % 2 ≡ 1
  pub less : t < k

twos_step : (k n d t : ℕ) → n % 2 ≡ d → 0 < n → (0 < n / 2 → Twos k (n / 2) t) → Twos (suc k) n (under d t)
twos_step k n zero t e h ih =
    let w = ih (omega arith) in
    let q : n / 2 ^ suc t ≡ n / 2 / 2 ^ t = sym (div-div-eq-div-mul n 2 (2 ^ t) ∙ ap (λ z. n / z) (sym (pow-succ' 2 t))) in
    record {
      whole = rw q (pow_double t (n / 2 / 2 ^ t) ∙ omega (arith, w.whole));
      odd = rw q w.odd;
      less = omega (arith, w.less);
    }
twos_step k n (suc zero) t e h ih = record { whole = omega (arith, div-one n); odd = rw (div-one n) e; less = omega arith }
twos_step k n (suc (suc d)) t e h ih = absurd (omega arith)

pub twos : (k n : ℕ) → 0 < n → n < 2 ^ k → Twos k n (count_trailing_zeros k n)
unfolding count_trailing_zeros
twos zero n h l = absurd (omega arith)
twos (suc k) n h l = twos_step k n (n % 2) (count_trailing_zeros k (n / 2)) refl h (λ g. twos k (n / 2) g (omega arith))

-- Both with their twos: what is common to both is what is common to their odd parts, with the fewer twos.
pair_le : (k a b s t : ℕ) → Twos k a s → Twos k b t → s ≤ t → gcd (a / 2 ^ s) (b / 2 ^ t) * 2 ^ s ≡ gcd a b
pair_le k a b s t p q h =
    let x = a / 2 ^ s in
    let y = b / 2 ^ t in
    let e : s + (t - s) ≡ t = omega arith in
    let f : 2 ^ s * (2 ^ (t - s) * y) ≡ b =
    sym (mul_assoc (2 ^ s) (2 ^ (t - s)) y) ∙ ap (λ z. z * y) (sym (pow-add 2 s (t - s)) ∙ ap (λ z. 2 ^ z) e) ∙ q.whole in
    sym
    (ap (λ z. gcd z b) (sym p.whole)
    ∙ ap (gcd (2 ^ s * x)) (sym f)
    ∙ gcd_scale (2 ^ s) x (2 ^ (t - s) * y) (pow_whole s)
    ∙ ap (λ z. 2 ^ s * z) (odd_twos (t - s) x y p.odd)
    ∙ mul_comm (2 ^ s) (gcd x y))

pub pair_gcd : (k a b s t : ℕ) → Twos k a s → Twos k b t → gcd (a / 2 ^ s) (b / 2 ^ t) * 2 ^ min s t ≡ gcd a b
pair_gcd k a b s t p q =
    ⊎_elim
    (λ (h : s < t). let m : min s t ≡ s = omega arith in rw m (pair_le k a b s t p q (omega arith)))
    (λ (h : t ≤ s).
    let m : min s t ≡ t = omega arith in
    rw m (ap (λ z. z * 2 ^ t) (gcd_swap (a / 2 ^ s) (b / 2 ^ t)) ∙ pair_le k b a t s q p h ∙ gcd_swap b a))
    (below s t)

pub gcd_le : (a b : ℕ) → 0 < a → gcd a b ≤ a
gcd_le a b h = le_of_dvd h (gcd_greatest a b).left

-- Two numbers first differ where the twos of their difference end.
under_same : (p q s t : ℕ) → p ≡ q → (p ≡ 0 → s ≡ t) → under p s ≡ under q t
under_same zero q s t e f = rw (← e) (ap suc (f refl))
under_same (suc p) q s t e f = rw (← e) refl

pub record Halves (x y z q : ℕ) : Type 0 where
  pub last : z % 2 ≡ (x - y) % 2
  pub half : z / 2 ≡ q
  pub rest : z % 2 ≡ 0 → (x - y) / 2 ≡ x / 2 - y / 2

halves : (x y z q i j : ℕ) → x % 2 ≡ i → y % 2 ≡ j → y ≤ x → z ≡ q * 2 + differ i j → Halves x y z q
halves x y z q zero zero a b h e = record { last = omega arith; half = omega arith; rest = λ o. omega arith }
halves x y z q zero (suc zero) a b h e = record { last = omega arith; half = omega arith; rest = λ o. omega arith }
halves x y z q (suc zero) zero a b h e = record { last = omega arith; half = omega arith; rest = λ o. omega arith }
halves x y z q (suc zero) (suc zero) a b h e = record { last = omega arith; half = omega arith; rest = λ o. omega arith }
halves x y z q (suc (suc i)) j a b h e = absurd (omega arith)
halves x y z q zero (suc (suc j)) a b h e = absurd (omega arith)
halves x y z q (suc zero) (suc (suc j)) a b h e = absurd (omega arith)

xor_sub : (k x y : ℕ) → y ≤ x → count_trailing_zeros k (bit_xor x y) ≡ count_trailing_zeros k (x - y)
unfolding count_trailing_zeros
xor_sub zero x y h = refl
xor_sub (suc k) x y h =
    let d = halves x y (bit_xor x y) (bit_xor (x / 2) (y / 2)) (x % 2) (y % 2) refl refl h (xor_step x y) in
    under_same (bit_xor x y % 2) ((x - y) % 2) _ _ d.last
    (λ z. ap (count_trailing_zeros k) d.half ∙ xor_sub k (x / 2) (y / 2) (omega arith) ∙ ap (count_trailing_zeros k) (sym (d.rest z)))

-- How far two numbers are apart, and their divisors.
module _ (x y : ℕ) where
  abbrev pub between : ℕ
  between = x - y + (y - x)

  pub apart_gcd : gcd (min x y) between ≡ gcd x y
  apart_gcd =
      ⊎_elim
      (λ (h : x < y).
      let m : min x y ≡ x = omega arith in
      let b : between ≡ y - x = omega arith in
      rw (m, b) (gcd_more x (y - x) ∙ ap (gcd x) (omega arith)))
      (λ (h : y ≤ x).
      let m : min x y ≡ y = omega arith in
      let b : between ≡ x - y = omega arith in
      rw (m, b) (gcd_more y (x - y) ∙ ap (gcd y) (omega arith) ∙ gcd_swap y x))
      (below x y)

  pub apart_twos : (k : ℕ) → (x ≡ y → ⊥) → x < 2 ^ k → y < 2 ^ k → Twos k between (count_trailing_zeros k (bit_xor x y))
  apart_twos k n h l = rw same (twos k between (omega arith) (omega arith))
    where
      same : count_trailing_zeros k (bit_xor x y) ≡ count_trailing_zeros k between
      same =
          ⊎_elim
          (λ (h : x < y).
          let b : between ≡ y - x = omega arith in
          rw b (ap (count_trailing_zeros k) (xor_comm x y) ∙ xor_sub k y x (omega arith)))
          (λ (h : y ≤ x). let b : between ≡ x - y = omega arith in rw b (xor_sub k x y h))
          (below x y)

  -- The smaller number and the odd part of what the two are apart.
  pub apart_odd : (k t : ℕ) → x % 2 ≡ 1 → y % 2 ≡ 1 → Twos k between t → gcd (min x y) (between / 2 ^ t) ≡ gcd x y
  apart_odd k t o p w =
      let m : min x y % 2 ≡ 1 = ⊎_elim (λ (h : x < y). omega arith) (λ (h : y ≤ x). omega arith) (below x y) in
      sym (odd_twos t (min x y) (between / 2 ^ t) m) ∙ ap (gcd (min x y)) w.whole ∙ apart_gcd
