-- A number that is multiplied with ten again and again, kept in 60 binary digits and the twos that it is still over.
use Prim.Native.Nat.{ℕ, ◌+◌, ◌-◌, ◌*◌, ◌/◌, ◌^◌, ◌≤◌, ◌<◌}
use mathlib.Core.Path.{◌≡◌, refl, sym, ap, ◌∙◌}
use mathlib.Core.Logic.{◌⊎◌, inl, inr, ⊎_elim}
use native.Mathlib.Omega.{arith}
use native.Mathlib.Numerals.{add-one}
use native.Mathlib.Nat.{mul_assoc, mul-one, div-lt_iff_lt-mul, div-eq_of_lt}
use lib.Pow.{pow_pos, pow-add}
use Rattle.meaning.specs.Near.{digits}
use Rattle.meaning.specs.NearText.{figure, highest, grown, whole_part, tens_of, six_digits}
use Rattle.theory.specs.Numbers.Sum.{below, last_or_below}
use Rattle.theory.specs.Numbers.Binary.{digits_most, digits_some, digits_shift, zeros_cut, digits_cut, cut_small, ten_most, ten_least}
use Rattle.theory.specs.Numbers.Tens.{tens_is}
use Rattle.theory.specs.Numbers.Printed.{six_most}
use Rattle.decimals.specs.Told.{Six}

-- After b tens: v over as many twos as are left, with e of the k twos taken off.
pub record Growing (p k v left b : ℕ) : Type 0 where
  pub e : ℕ
  pub split : e + left ≡ k
  pub few : v < 2 ^ 60
  pub some : 0 < v
  pub whole : (e ≡ 0) ⊎ (digits v ≡ 60)
  pub same : grown p b ≡ v * 2 ^ e
  pub bound : digits v ≤ left + 21
  pub most : 3 * b ≤ digits v + e
  pub fewest : (i : ℕ) → i < b → whole_part p k i < 100000

pub growing_none : (p k : ℕ) → Six p k → Growing p k p k 0
unfolding grown
growing_none p k s =
    record {
      e = 0;
      split = omega arith;
      few = omega (arith, s.small);
      some = s.some;
      whole = inl refl;
      same = sym (mul-one p);
      bound = omega (arith, digits_most p k s.less);
      most = omega arith;
      fewest = λ i g. absurd (omega arith);
    }

module _ {p k v left b : ℕ} (g : Growing p k v left b) where
  pub growing_whole : whole_part p k b ≡ v / 2 ^ left
  growing_whole = ap (λ z. z / 2 ^ k) g.same ∙ ap (λ z. v * 2 ^ g.e / 2 ^ z) (sym g.split) ∙ zeros_cut v g.e left

  module _ (less : v / 2 ^ left < 100000) where
    abbrev t : ℕ
    t = 10 * v

    abbrev c : ℕ
    c = digits t - 60

    t_least : digits v + 3 ≤ digits t
    t_least = ten_least v g.some

    -- There are as many twos left as are taken off.
    v_few : digits v ≤ left + 17
    v_few =
        let l : v < 100000 * 2 ^ left = (div-lt_iff_lt-mul {y = 100000} (pow_pos left)).0 less in
        omega (arith, digits_most v (17 + left) (rw (pow-add 2 17 left) (omega arith)))

    t_few : digits t ≤ left + 21
    t_few = omega (arith, v_few, ten_most v)

    pub twos_left : c ≤ left
    twos_left = omega (arith, t_few)

    -- Where something was taken off, the number has its 60 digits.
    full : (g.e ≡ 0) ⊎ (63 ≤ digits t)
    full = ⊎_elim (λ (z : g.e ≡ 0). inl z) (λ (z : digits v ≡ 60). inr (omega (arith, t_least))) g.whole

    t_digits : digits (t * 2 ^ g.e) ≡ digits t + g.e
    t_digits = digits_shift t g.e (omega (arith, g.some))

    extra_is : digits (t * 2 ^ g.e) - 60 ≡ g.e + c
    extra_is = ⊎_elim (λ (z : g.e ≡ 0). omega (arith, t_digits)) (λ (z : 63 ≤ digits t). omega (arith, t_digits)) full

    cut_digits : digits (t / 2 ^ c) + c ≡ digits t
    cut_digits = omega (arith, t_least, digits_cut t c (digits t - c - 1) (omega (arith, t_least)))

    cut_some : 0 < t / 2 ^ c
    cut_some = digits_some (t / 2 ^ c) (omega (arith, cut_digits, t_least))

    new_same : grown p (b + 1) ≡ t / 2 ^ c * 2 ^ (g.e + c)
    unfolding grown
    new_same =
        ap (grown p) (add-one b)
        ∙ ap (λ z. highest (10 * z)) g.same
        ∙ ap highest (sym (mul_assoc 10 v (2 ^ g.e)))
        ∙ ap (λ z. t * 2 ^ g.e / 2 ^ z * 2 ^ z) extra_is
        ∙ ap (λ z. z * 2 ^ (g.e + c)) (zeros_cut t g.e c)

    -- It grows by three binary digits at least.
    pub growing_longer : digits v + g.e < digits (t / 2 ^ c) + (g.e + c)
    growing_longer = omega (arith, cut_digits, t_least)

    pub growing_more : Growing p k (t / 2 ^ c) (left - c) (b + 1)
    growing_more =
        record {
          e = g.e + c;
          split = omega (arith, g.split, twos_left);
          few = cut_small t c 60 (omega arith);
          some = cut_some;
          whole =
              ⊎_elim (λ (z : 0 < c). inr (omega (arith, cut_digits)))
              (λ (z : c ≤ 0). ⊎_elim (λ (y : g.e ≡ 0). inl (omega arith)) (λ (y : 63 ≤ digits t). absurd (omega arith)) full)
              (below 0 c);
          same = new_same;
          bound = omega (arith, cut_digits, t_few, twos_left);
          most = omega (arith, g.most, growing_longer, cut_digits, t_least);
          fewest = λ i h. last_or_below (rw add-one at h) (λ z. rw (z, growing_whole) less) (λ l. g.fewest i l);
        }

-- What is told once the whole part has six digits.
module _ {p k v left b whole : ℕ} (s : Six p k) (g : Growing p k v left b) (is : whole ≡ v / 2 ^ left) (enough : 100000 ≤ whole) where
  here : whole ≡ whole_part p k b
  here = is ∙ sym (growing_whole g)

  fewest : b ≡ tens_of p k
  fewest = tens_is p k s.some b (omega (arith, here)) g.fewest

  pub growing_six : figure whole b ≡ six_digits p k
  growing_six = ap (λ z. figure z b) here ∙ ap (λ z. figure (whole_part p k z) z) fewest

  pub growing_small : whole < 1000000
  growing_small = rw (here, fewest) (six_most p k s.some s.less)

-- The whole part of a fraction tells whether it is 1 or more.
module _ (p k : ℕ) {r : ℕ} (is : r ≡ p / 2 ^ k) where
  -- A fraction whose whole part is not 0 is 1 or more.
  pub whole_some : (r ≡ 0 → ⊥) → 2 ^ k ≤ p
  whole_some h = ⊎_elim (λ (l : p < 2 ^ k). absurd (h (is ∙ div-eq_of_lt l))) (λ (l : 2 ^ k ≤ p). l) (below p (2 ^ k))

  -- A fraction whose whole part is 0 is below 1.
  pub whole_none : r ≡ 0 → p < 2 ^ k
  whole_none z = let l : p / 2 ^ k < 1 = omega arith in omega (arith, (div-lt_iff_lt-mul {y = 1} (pow_pos k)).0 l)
