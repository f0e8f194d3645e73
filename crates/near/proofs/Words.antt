-- The word of a number, and the number that a word stands for.
use Rattle.std.proofs.Common.{◌≡◌, ℕ, ◌+◌, ◌-◌, ◌*◌, ◌/◌, ◌%◌, ◌^◌, ◌<◌, ◌≤◌, eqb, refl, ap, ◌∙◌, inr, ⊎_elim, mod-eq_of_lt, mul-zero, zero-mul, div-one, arith, shr-shr, ne_eqb}
use lib.Pow.{shl-shr, high, low}
use Rattle.meaning.specs.Number.{choose}
use Rattle.meaning.specs.Near.{digits, spare, top}
use Rattle.theory.specs.Numbers.Sum.{same, below}
use Rattle.theory.specs.Numbers.Binary.{digits_none, digits_cut, zeros_cut}
use Rattle.theory.specs.Numbers.Tops.{Padded, first_small, spare_zeros, spare_cut, top_digits}
use Rattle.near.specs.Word.{word, value}
use Rattle.near.specs.Row.{exponent, less_by}
use Rattle.near.proofs.Rows.{some_is}

pub value_none : value 0 ≡ 0
unfolding value
value_none = refl

pub word_none : word 0 ≡ 0
unfolding word
word_none = rw digits_none

-- A word stands for its number with the first 31 digits alone, as long as the exponent fits.
pub value_word : (x : ℕ) → spare x < 2 ^ 33 → value (word x) ≡ top x
unfolding word value
value_word x h =
    let s = first_small x in
    let e : spare x * 2 ^ 31 % 2 ^ 64 ≡ spare x * 2 ^ 31 = mod-eq_of_lt (omega arith) in
    rw (e, low (spare x) 31 s, high (spare x) 31 s)

-- A number and its first 31 digits have one word.
pub word_top : (x : ℕ) → word (top x) ≡ word x
unfolding word
word_top x =
    let e : spare (top x) ≡ spare x = omega (arith, top_digits x) in
    rw (e, shl-shr (x / 2 ^ spare x) (spare x))

pub word_of : (x m : ℕ) → spare x ≡ m → m < 2 ^ 33 → word x ≡ m * 2 ^ 31 + x / 2 ^ m
unfolding word
word_of x m e h = rw (e, let f : m * 2 ^ 31 % 2 ^ 64 ≡ m * 2 ^ 31 = mod-eq_of_lt (omega arith) in f)

module _ (x : ℕ) (fits : spare x < 2 ^ 33) where
  word_is : word x ≡ spare x * 2 ^ 31 + x / 2 ^ spare x
  word_is = word_of x (spare x) refl fits

  pub word_some : 0 < x → 0 < word x
  word_some h =
      ⊎_elim
      (λ (o : 0 < spare x). omega (arith, word_is))
      (λ (o : spare x ≤ 0).
      let e : spare x ≡ 0 = omega arith in
      let f : x / 2 ^ spare x ≡ x = rw e (div-one x) in
      omega (arith, word_is, f))
      (below 0 (spare x))

  pub exponent_word : exponent (word x) ≡ choose (eqb x 0) (2 ^ 33) (spare x)
  exponent_word =
      ⊎_elim
      (λ (e : x ≡ 0). rw (e, word_none))
      (λ (e : x ≡ 0 → ⊥).
      some_is (word x) ℕ (2 ^ 33) (word x / 2 ^ 31) (word_some (omega arith)) ∙ rw (ne_eqb x 0 e, word_is) (high (spare x) 31 (first_small x)))
      (same x 0)

  -- The word of a number that is divided by a power of two that leaves it its first 31 digits.
  pub less_word : (k : ℕ) → 0 < x → k ≤ spare x → less_by k (word x) ≡ word (x / 2 ^ k)
  less_word k o h =
      let e = spare_cut x k h in
      let m : k + (spare x - k) ≡ spare x = omega arith in
      let c : x / 2 ^ k / 2 ^ (spare x - k) ≡ x / 2 ^ spare x = shr-shr x k (spare x - k) ∙ ap (λ z. x / 2 ^ z) m in
      some_is (word x) ℕ 0 (word x - k * 2 ^ 31) (word_some o)
      ∙ omega (arith, word_is, word_of (x / 2 ^ k) (spare x - k) e (omega arith), c)

-- A number with zeros behind, and one without its last digits.
pub word_zeros : (s k : ℕ) → Padded s k → word (s * 2 ^ k) ≡ (k + spare s) * 2 ^ 31 % 2 ^ 64 + s / 2 ^ spare s
unfolding word
word_zeros s k h = rw (spare_zeros s k h, zeros_cut s k (spare s))

pub word_cut : (v k : ℕ) → k + 31 ≤ digits v → (word (v / 2 ^ k * 2 ^ k) ≡ word v) × (digits (v / 2 ^ k) + k ≡ digits v)
unfolding word
word_cut v k h =
    let e = digits_cut v k (digits v - k - 1) (omega arith) in
    let f : spare v ≡ k + spare (v / 2 ^ k) = omega (arith, e) in
    (word_zeros (v / 2 ^ k) k (inr (omega (arith, e))) ∙ rw (f, ← shr-shr v k (spare (v / 2 ^ k))), omega (arith, e))

-- The sum of two products of which each has a word 0.
pub mix_none : (x D W p : ℕ) → x ≡ 0 → p ≡ 0 → word (value x * D + W * value p) ≡ 0
mix_none x D W p e f = rw (e, f, value_none, zero-mul D, mul-zero W) word_none

pub parts_none : (x D W p y : ℕ) → x ≡ 0 → p ≡ 0 → word (value x * D + W * (p * 2 ^ y)) ≡ 0
parts_none x D W p y e f = rw (e, f, value_none, zero-mul D, zero-mul (2 ^ y), mul-zero W) word_none
