-- Numbers times a power of two: their first digits, their cut sum, and the answer from two of them.
use Rattle.std.proofs.Common.{◌≡◌, ℕ, zero, suc, ◌+◌, ◌-◌, ◌*◌, ◌/◌, ◌^◌, ◌<◌, ◌≤◌, min, sym, refl, ap, ◌∙◌, ap₂, inr, ⊎_elim, mul-le-mul_right, mul_comm, mul-le-mul, add_comm, zero-mul, mul-one, le_of_mul-le-mul_right, div-one, arith, pow_pos, ne_eqb}
use native.Mathlib.Nat.{zero-div}
use lib.Pow.{shl-shr}
use Rattle.meaning.specs.Number.{sum_to}
use Rattle.meaning.specs.Near.{digits, spare, top, longest, cut_sum, near, near_from}
use Rattle.meaning.specs.Miss.{miss_from}
use Rattle.theory.specs.Numbers.Sum.{same, below, sum_ext, sum_scale, sum_zero, sum_term, sum_find}
use Rattle.theory.specs.Numbers.Binary.{digits_none, digits_some, digits_shift, zeros_add, zeros_split, zeros_cut}
use Rattle.theory.specs.Numbers.Cuts.{longest_above, longest_one, cut_ext}
use Rattle.theory.specs.Numbers.Tops.{spare_zeros}
use Rattle.theory.specs.Numbers.Sure.{twos_of, quotient}
use Rattle.near.proofs.Quotient.{same_quotient}

whole_zeros : (x m k : ℕ) → k ≤ m → x * 2 ^ m / 2 ^ k ≡ x * 2 ^ (m - k)
whole_zeros x m k h = ap (λ z. z / 2 ^ k) (zeros_split x m k h) ∙ shl-shr (x * 2 ^ (m - k)) k

digits_zeros : (x m : ℕ) → digits (x * 2 ^ m) ≤ digits x + m
digits_zeros x m =
    ⊎_elim (λ (h : 0 < x). omega (arith, digits_shift x m h))
    (λ (h : x ≤ 0). let e : x ≡ 0 = omega arith in rw (e, zero-mul (2 ^ m)) (omega (arith, digits_none)))
    (below 0 x)

-- The first digits of a number with zeros behind.
pub top_scale : (x m : ℕ) → top (x * 2 ^ m) ≡ top x * 2 ^ m
top_scale x m =
    ⊎_elim
    (λ (h : digits x < 31).
    let k = spare (x * 2 ^ m) in
    let l : k ≤ m = omega (arith, digits_zeros x m) in
    let e : spare x ≡ 0 = omega arith in
    let f : top x ≡ x = rw (e, div-one x) (mul-one x) in
    ap (λ z. z * 2 ^ k) (whole_zeros x m k l) ∙ sym (zeros_split x m k l) ∙ ap (λ z. z * 2 ^ m) (sym f))
    (λ (h : 31 ≤ digits x).
    rw (spare_zeros x m (inr h))
    (ap (λ z. z * 2 ^ (m + spare x)) (zeros_cut x m (spare x))
    ∙ ap (λ z. x / 2 ^ spare x * 2 ^ z) (add_comm m (spare x))
    ∙ sym (zeros_add (x / 2 ^ spare x) (spare x) m)))
    (below (digits x) 31)

-- The cut sum of numbers with zeros behind.
module _ (f : ℕ → ℕ) (m : ℕ) where
  abbrev g : ℕ → ℕ
  g j = f j * 2 ^ m

  longest_most : (n : ℕ) → longest g n ≤ longest f n + m
  unfolding longest
  longest_most zero = omega arith
  longest_most (suc n) = omega (arith, longest_most n, digits_zeros (f n) m)

  longest_least : (n : ℕ) → 0 < longest f n → longest f n + m ≤ longest g n
  longest_least n h =
      let o = longest_one f n h in
      omega (arith, longest_above g n o.0 o.1, digits_shift (f o.0) m (digits_some (f o.0) (omega (arith, o.2))), o.2)

  cut_scale : (n : ℕ) → cut_sum g n ≡ cut_sum f n * 2 ^ m
  cut_scale n =
      ⊎_elim
      (λ (h : longest f n < 56).
      let k = longest g n - 56 in
      let l : k ≤ m = omega (arith, longest_most n) in
      let e : longest f n - 56 ≡ 0 = omega arith in
      let S = sum_to f n in
      let a : sum_to (λ j. g j / 2 ^ k) n ≡ S * 2 ^ (m - k) =
      sum_ext _ _ n (λ j _. whole_zeros (f j) m k l ∙ mul_comm (f j) (2 ^ (m - k))) ∙ sum_scale (2 ^ (m - k)) f n ∙ mul_comm (2 ^ (m - k)) S in
      let b : cut_sum f n ≡ S = rw e (mul-one (sum_to (λ j. f j / 1) n) ∙ sum_ext _ _ n (λ j _. div-one (f j))) in
      ap (λ z. z * 2 ^ k) a ∙ sym (zeros_split S m k l) ∙ ap (λ z. z * 2 ^ m) (sym b))
      (λ (h : 56 ≤ longest f n).
      let k = longest f n - 56 in
      let e : longest g n - 56 ≡ m + k = omega (arith, longest_most n, longest_least n (omega arith)) in
      let S = sum_to (λ j. f j / 2 ^ k) n in
      rw e
      (ap (λ z. z * 2 ^ (m + k)) (sum_ext _ _ n (λ j _. zeros_cut (f j) m k)) ∙ ap (λ z. S * 2 ^ z) (add_comm m k) ∙ sym (zeros_add S k m)))
      (below (longest f n) 56)

-- One of the numbers of a cut sum above 0 is above 0.
pub cut_find : (f : ℕ → ℕ) (n : ℕ) → 0 < cut_sum f n → (j : ℕ) × (j < n) × (0 < f j)
cut_find f n o =
    ⊎_elim
    (λ (h : 0 < sum_to f n). sum_find f n h)
    (λ (h : sum_to f n ≤ 0).
    let k = longest f n - 56 in
    let z : (j : ℕ) → j < n → f j / 2 ^ k ≡ 0 =
    λ j l. let e : f j ≡ 0 = omega (arith, sum_term f n j l) in ap (λ y. y / 2 ^ k) e ∙ zero-div (2 ^ k) in
    absurd (omega (arith, ap (λ y. y * 2 ^ k) (sum_zero (λ j. f j / 2 ^ k) n z), zero-mul (2 ^ k))))
    (below 0 (sum_to f n))

-- A number is another but for two powers of two.
abbrev pub Alike : ℕ → ℕ → ℕ → ℕ → Type 0
Alike a b x y = x * 2 ^ a ≡ y * 2 ^ b

swapped : (x y A B K : ℕ) → x * A ≡ y * B → x * K * A ≡ y * K * B
swapped x y A B K e = omega (arith, ap (λ z. z * K) e)

nothing : (x A : ℕ) → 0 < A → x * A ≡ 0 → x ≡ 0
nothing x A h e =
    ⊎_elim (λ (o : 0 < x). absurd (omega (arith, e, mul-le-mul o h))) (λ (o : x ≤ 0). omega arith) (below 0 x)

module _ (a b : ℕ) where
  pub alike_top : (x y : ℕ) → Alike a b x y → Alike a b (top x) (top y)
  alike_top x y e = sym (top_scale x a) ∙ ap top e ∙ top_scale y b

  pub alike_sum : (f g : ℕ → ℕ) (n : ℕ) → ((j : ℕ) → j < n → Alike a b (f j) (g j)) → Alike a b (cut_sum f n) (cut_sum g n)
  alike_sum f g n e = sym (cut_scale f a n) ∙ cut_ext (λ j. f j * 2 ^ a) (λ j. g j * 2 ^ b) n e ∙ cut_scale g b n

  pub alike_none : (x y : ℕ) → Alike a b x y → y ≡ 0 → x ≡ 0
  alike_none x y e z = nothing x (2 ^ a) (pow_pos a) (e ∙ rw z (zero-mul (2 ^ b)))

module _ (a b x y : ℕ) (e : Alike a b x y) (h : 0 < y) where
  pub alike_some : 0 < x
  alike_some =
      ⊎_elim (λ (o : 0 < x). o) (λ (o : x ≤ 0). absurd (omega (arith, alike_none b a y x (sym e) (omega arith)))) (below 0 x)

  pub alike_digits : digits x + a ≡ digits y + b
  alike_digits = sym (digits_shift x a alike_some) ∙ ap digits e ∙ digits_shift y b h

pub alike_below : (a b x y u w : ℕ) → Alike a b x y → Alike a b u w → y ≤ w → x ≤ u
alike_below a b x y u w e f h =
    let l : x * 2 ^ a ≤ u * 2 ^ a = rw (e, f) (mul-le-mul_right (2 ^ b) h) in
    le_of_mul-le-mul_right l (pow_pos a)

-- The answer asks only for the quotient.
module _ (a b G D H E rows : ℕ) (g : Alike a b G H) (d : Alike a b D E) (some : 0 < E) where
  pub near_alike : 0 < H → near_from G D rows ≡ near_from H E rows
  near_alike h =
      let s = 2 ^ 30 - (2 * rows + 2) in
      let K = twos_of H E in
      let k : twos_of G D ≡ K = omega (arith, alike_digits a b G H g h, alike_digits a b D E d some) in
      let q : quotient G D ≡ quotient H E =
      ap (λ z. G * 2 ^ z / D) k ∙ same_quotient (G * 2 ^ K) D (H * 2 ^ K) E (2 ^ a) (2 ^ b) (swapped G H (2 ^ a) (2 ^ b) (2 ^ K) g) d (pow_pos a) (pow_pos b) in
      ap₂ (λ x y. near 0 0 (y * s / 2 ^ 30) (min (((y + 1) * 2 ^ 30 + s - 1) / s) (2 ^ x)) x) k q

  pub miss_alike : miss_from G D rows ≡ miss_from H E rows
  miss_alike =
      ⊎_elim
      (λ (z : H ≡ 0). let y : G ≡ 0 = alike_none a b G H g z in rw (z, y) refl)
      (λ (z : H ≡ 0 → ⊥).
      let o : 0 < H = omega arith in
      let y : G ≡ 0 → ⊥ = λ y. omega (arith, alike_some a b G H g o) in
      rw (ne_eqb G 0 y, ne_eqb H 0 z) (near_alike o))
      (same H 0)
