-- The highest 31 binary digits of a number.
use Rattle.std.specs.Prelude.{ℕ, suc, ◌+◌, ◌-◌, ◌*◌, ◌/◌, ◌^◌, ◌≤◌, ◌<◌, ◌≡◌, ◌⊎◌}
use Rattle.std.proofs.Common.{sym, ap, ◌∙◌, inl, inr, ⊎_elim, arith, le_trans, le-div_iff_mul-le, mul-pos, mul_comm, mul-one, div-one, mul-le-mul_right, div-mul-le_self, pow_pos, pow_mono, pow-add}
use Rattle.std.proofs.Math.Nat.{mul-div-le}
use Rattle.std.proofs.lemmas.Nat.{shl-shr}
use Rattle.std.proofs.Math.Pow.{shr_mono}
use Rattle.meaning.specs.Near.{digits, spare, top}
use Rattle.theory.specs.Numbers.Sum.{below}
use Rattle.theory.specs.Numbers.Binary.{has_digits, digits_most, digits_least, digits_mono, digits_power, digits_some, digits_shift, digits_cut, zeros_split, cut_small, kept_digits}
use Rattle.theory.specs.Numbers.Trimmed.{Trimmed, trimmed_parts}

pub top_below : (x : ℕ) → top x ≤ x
top_below x = div-mul-le_self x (2 ^ spare x)

pub top_none : top 0 ≡ 0
top_none = omega (arith, top_below 0)

-- The digits that are kept are below 2 ^ 31.
pub first_small : (x : ℕ) → x / 2 ^ spare x < 2 ^ 31
first_small x = cut_small x (spare x) 31 (omega arith)

-- What is lost, in parts of 2 ^ 48.
pub top_trimmed : (x : ℕ) → Trimmed (2 ^ 48) (2 ^ 18) x (top x)
top_trimmed x = trimmed_parts (2 ^ 48) (2 ^ 18) (2 ^ 30) 1 (omega arith) (omega arith) (kept_digits 30 x)

-- A number of at most 31 digits is all of it.
pub top_small : (x : ℕ) → x < 2 ^ 31 → top x ≡ x
top_small x h =
    let e : spare x ≡ 0 = omega (arith, digits_most x 31 h) in
    rw e (rw (div-one x, mul-one x))

top_first : (y m : ℕ) → suc m ≤ digits y → 2 ^ m ≤ top y
top_first y m h =
    ⊎_elim
    (λ (g : 0 < spare y).
    let s = spare y in
    let a : 2 ^ 30 * 2 ^ s ≤ y = rw (← pow-add 2 30 s) (digits_power y (30 + s) (omega arith)) in
    let q : 2 ^ 30 ≤ y / 2 ^ s = (le-div_iff_mul-le (pow_pos s)).1 a in
    let b : 2 ^ m ≤ 2 ^ 30 * 2 ^ s = rw (← pow-add 2 30 s) (pow_mono {i = m} (omega arith)) in
    le_trans b (mul-le-mul_right (2 ^ s) q))
    (λ (g : spare y ≤ 0).
    let e : spare y ≡ 0 = omega arith in
    let t : top y ≡ y = rw e (rw (div-one y, mul-one y)) in
    rw t (digits_power y m h))
    (below 0 (spare y))

pub top_digits : (x : ℕ) → digits (top x) ≡ digits x
top_digits x =
    ⊎_elim
    (λ (h : 0 < digits x).
    let m : ℕ = digits x - 1 in
    omega (arith, digits_mono (top x) x (top_below x), digits_least (top x) m (top_first x m (omega arith))))
    (λ (h : digits x ≤ 0). omega (arith, digits_mono (top x) x (top_below x)))
    (below 0 (digits x))

pub top_twice : (x : ℕ) → top (top x) ≡ top x
top_twice x =
    let e : spare (top x) ≡ spare x = omega (arith, top_digits x) in
    rw e (ap (λ z. z * 2 ^ spare x) (shl-shr (x / 2 ^ spare x) (spare x)))

-- A number with no digits but its highest 31, and its last zeros taken away.
factor_some : (x y : ℕ) → 0 < x * y → 0 < x
factor_some x y h =
    ⊎_elim (λ (l : 0 < x). l) (λ (l : x ≤ 0). let z : x ≡ 0 = omega arith in absurd (omega (arith, rw z at h))) (below 0 x)

pub top_cut : (x k : ℕ) → top x ≡ x → k ≤ spare x → top (x / 2 ^ k) ≡ x / 2 ^ k
top_cut x k e h =
    let s : ℕ = spare x in
    let m : ℕ = x / 2 ^ s in
    let f : x ≡ m * 2 ^ (s - k) * 2 ^ k = sym e ∙ zeros_split m s k h in
    let y : x / 2 ^ k ≡ m * 2 ^ (s - k) = ap (λ z. z / 2 ^ k) f ∙ shl-shr (m * 2 ^ (s - k)) k in
    ⊎_elim
    (λ (o : 0 < s).
    let w : 0 < m = factor_some m (2 ^ s) (omega (arith, e, digits_power x 30 (omega arith))) in
    let d : digits x ≡ digits (m * 2 ^ (s - k)) + k = ap digits f ∙ digits_shift (m * 2 ^ (s - k)) k (mul-pos w (pow_pos (s - k))) in
    let t : spare (m * 2 ^ (s - k)) ≡ s - k = omega (arith, d) in
    rw (y, t) (ap (λ z. z * 2 ^ (s - k)) (shl-shr m (s - k))))
    (λ (o : s ≤ 0).
    let z : k ≡ 0 = omega arith in
    rw (z, div-one x) e)
    (below 0 s)

pub whole_cut : (x k : ℕ) → top x ≡ x → k ≤ spare x → x / 2 ^ k * 2 ^ k ≡ x
whole_cut x k e h =
    let a = x / 2 ^ spare x in
    let f : x ≡ a * 2 ^ (spare x - k) * 2 ^ k = sym e ∙ zeros_split a (spare x) k h in
    ap (λ z. z / 2 ^ k * 2 ^ k) f ∙ ap (λ z. z * 2 ^ k) (shl-shr (a * 2 ^ (spare x - k)) k) ∙ sym f

-- A power of two that divides its last digit away divides it wholly.
pub top_parts : (x k : ℕ) → (0 < top x → k ≤ spare (top x)) → 2 ^ k * (top x / 2 ^ k) ≡ top x
top_parts x k h =
    ⊎_elim
    (λ (o : 0 < top x). mul_comm (2 ^ k) (top x / 2 ^ k) ∙ whole_cut (top x) k (top_twice x) (h o))
    (λ (o : top x ≤ 0).
    let z : top x ≡ 0 = omega arith in
    omega (arith, mul-div-le (top x) (2 ^ k)))
    (below 0 (top x))

-- A smaller number keeps no more.
pub top_mono : (x y : ℕ) → x ≤ y → top x ≤ top y
top_mono x y h =
    let m = digits_mono x y h in
    ⊎_elim
    (λ (g : digits x < digits y).
    let a = top_first y (digits x) g in
    omega (arith, top_below x, (has_digits x).0))
    (λ (g : digits y ≤ digits x).
    let e : spare x ≡ spare y = omega arith in
    rw e (mul-le-mul_right (2 ^ spare y) (shr_mono (spare y) h)))
    (below (digits x) (digits y))

-- A number whose last k digits are 0, and that has 31 before them unless k is 0.
abbrev pub Padded : ℕ → ℕ → Type 0
Padded s k = (k ≡ 0) ⊎ (31 ≤ digits s)

pub spare_zeros : (s k : ℕ) → Padded s k → spare (s * 2 ^ k) ≡ k + spare s
spare_zeros s k (inl e) = rw e (rw (mul-one s) (omega arith))
spare_zeros s k (inr h) = omega (arith, digits_shift s k (digits_some s (omega arith)))

pub spare_cut : (x k : ℕ) → k ≤ spare x → spare (x / 2 ^ k) ≡ spare x - k
spare_cut x k h =
    ⊎_elim
    (λ (o : 0 < spare x). omega (arith, digits_cut x k (30 + spare x - k) (omega arith)))
    (λ (o : spare x ≤ 0).
    let e : k ≡ 0 = omega arith in
    rw (e, div-one x) (omega arith))
    (below 0 (spare x))
