-- The sum of two products, each cut so that the larger keeps 62 digits, has the word of the whole sum.
use Rattle.std.proofs.Common.{◌≡◌, ℕ, ◌+◌, ◌-◌, ◌*◌, ◌/◌, ◌%◌, ◌^◌, ◌<◌, ◌≤◌, max, ◌⊎◌, sym, refl, ap, ◌∙◌, inl, inr, ⊎_elim, mod-eq_of_lt, mul_comm, mul-le-mul, add_comm, le-div_iff_mul-le, zero-mul, mul-one, div-one, arith, pow_pos, pow_mono, pow-add, shl_lt}
use native.Mathlib.Nat.{div-eq_of_lt, mul-add-div_right, mul-mul-mul_comm}
use lib.Pow.{shl-shr}
use Rattle.meaning.specs.Near.{digits, spare}
use Rattle.theory.specs.Numbers.Sum.{below}
use Rattle.theory.specs.Numbers.Binary.{has_digits, digits_none, digits_most, digits_least, digits_power, digits_mono, digits_shift, zeros_split, zeros_cut, cut_small}
use Rattle.theory.specs.Numbers.Tops.{Padded}
use Rattle.near.specs.Word.{word, value}
use Rattle.near.proofs.Words.{word_cut}

-- A sum is cut where one of the two numbers has nothing but zeros behind.
cut_sum_lem : (a Q k : ℕ) → (a * 2 ^ k + Q) / 2 ^ k ≡ a * 2 ^ k / 2 ^ k + Q / 2 ^ k
cut_sum_lem a Q k = mul-add-div_right (pow_pos k) a Q ∙ ap (λ z. z + Q / 2 ^ k) (sym (shl-shr a k))

-- What the sum of two numbers is to be, each without its last k digits.
abbrev pub Summed : ℕ → ℕ → ℕ → Type 0
Summed P Q k = (word ((P / 2 ^ k + Q / 2 ^ k) * 2 ^ k) ≡ word (P + Q)) × Padded (P / 2 ^ k + Q / 2 ^ k) k

summed_left : (p x Q k : ℕ) → k ≤ x → k + 62 ≤ digits (p * 2 ^ x) → Summed (p * 2 ^ x) Q k
summed_left p x Q k h l =
    let P = p * 2 ^ x in
    let e : (P + Q) / 2 ^ k ≡ P / 2 ^ k + Q / 2 ^ k = rw (zeros_split p x k h) (cut_sum_lem (p * 2 ^ (x - k)) Q k) in
    let w = word_cut (P + Q) k (omega (arith, digits_mono P (P + Q) (omega arith))) in
    rw (← e) (w.0, inr (omega (arith, digits_mono P (P + Q) (omega arith), w.1)))

pub part_down : (p x k : ℕ) → x ≤ k → p / 2 ^ (k - x) ≡ p * 2 ^ x / 2 ^ k
part_down p x k h =
    let e : x + (k - x) ≡ k = omega arith in
    sym (zeros_cut p x (k - x)) ∙ ap (λ z. p * 2 ^ x / 2 ^ z) e

cut_long : (v k : ℕ) → 31 ≤ digits (v / 2 ^ k) → k + 31 ≤ digits v
cut_long v k h =
    let a : 2 ^ 30 * 2 ^ k ≤ v = (le-div_iff_mul-le (pow_pos k)).0 (digits_power (v / 2 ^ k) 30 h) in
    let b : 2 ^ (30 + k) ≤ v = rw (pow-add 2 30 k) a in
    omega (arith, digits_least v (30 + k) b)

-- Where the sum without its last x digits still has 31, it has the word of the whole sum.
pub aligned : (p x q y : ℕ) → y ≤ x → 31 ≤ digits (p + q / 2 ^ (x - y)) → word ((p + q / 2 ^ (x - y)) * 2 ^ x) ≡ word (p * 2 ^ x + q * 2 ^ y)
aligned p x q y h l =
    let Q = q * 2 ^ y in
    let d : q / 2 ^ (x - y) ≡ Q / 2 ^ x = part_down q y x h in
    let e : (p * 2 ^ x + Q) / 2 ^ x ≡ p + q / 2 ^ (x - y) = cut_sum_lem p Q x ∙ rw (shl-shr p x) (ap (λ z. p + z) (sym d)) in
    rw (← e) (word_cut (p * 2 ^ x + Q) x (cut_long (p * 2 ^ x + Q) x (rw e l))).0

-- The first 31 digits of a longer number, by way of its 64.
pub first_long : (s z : ℕ) → z ≡ 64 - digits s → 31 ≤ digits s → digits s ≤ 64 → s * 2 ^ z % 2 ^ 64 / 2 ^ 33 ≡ s / 2 ^ spare s
first_long s z e h l =
    let a : digits s + z ≡ 64 = omega arith in
    let b : z + spare s ≡ 33 = omega arith in
    let c : s * 2 ^ z < 2 ^ 64 = rw a at (shl_lt (digits s) z (has_digits s).0) in
    ap (λ y. y / 2 ^ 33) (mod-eq_of_lt c) ∙ ap (λ y. s * 2 ^ z / 2 ^ y) (sym b) ∙ zeros_cut s z (spare s)

-- How many digits two numbers are cut by such that the larger keeps 62.
abbrev pub cut_at : ℕ → ℕ → ℕ
cut_at P Q = max (digits P) (digits Q) - 62

summed_none : (P Q k : ℕ) → k ≡ 0 → Summed P Q k
summed_none P Q k e = (rw e (rw (div-one P, div-one Q, mul-one (P + Q)) refl), inl e)

summed_some : (p x q y : ℕ) → p < 2 ^ 62 → 62 < digits (p * 2 ^ x) → digits (q * 2 ^ y) ≤ digits (p * 2 ^ x) → (k : ℕ) → k ≡ cut_at (p * 2 ^ x) (q * 2 ^ y)
    → Summed (p * 2 ^ x) (q * 2 ^ y) k
summed_some p x q y h a b k e =
    summed_left p x (q * 2 ^ y) k (omega (arith, digits_most (p * 2 ^ x) (62 + x) (shl_lt 62 x h))) (omega arith)

summed_swap : (P Q k : ℕ) → Summed P Q k → Summed Q P k
summed_swap P Q k s = rw (add_comm (Q / 2 ^ k) (P / 2 ^ k), add_comm Q P) s

pub summed : (p x q y : ℕ) → p < 2 ^ 62 → q < 2 ^ 62 → (k : ℕ) → k ≡ cut_at (p * 2 ^ x) (q * 2 ^ y) → Summed (p * 2 ^ x) (q * 2 ^ y) k
summed p x q y h l k e =
    ⊎_elim
    (λ (a : digits P < digits Q).
    ⊎_elim
    (λ (b : 62 < digits Q). summed_swap Q P k (summed_some q y p x l b (omega arith) k (omega (arith, e))))
    (λ (b : digits Q ≤ 62). summed_none P Q k (omega (arith, e)))
    (below 62 (digits Q)))
    (λ (a : digits Q ≤ digits P).
    ⊎_elim
    (λ (b : 62 < digits P). summed_some p x q y h b a k e)
    (λ (b : digits P ≤ 62). summed_none P Q k (omega (arith, e)))
    (below 62 (digits P)))
    (below (digits P) (digits Q))
  where
    P : ℕ
    P = p * 2 ^ x

    Q : ℕ
    Q = q * 2 ^ y

-- A number is kept as m and an exponent e that is given 33 too high.
pub split_value : (w : ℕ) → w % 2 ^ 31 * 2 ^ (w / 2 ^ 31 + 33 - 33) ≡ value w
unfolding value
split_value w = let e : w / 2 ^ 31 + 33 - 33 ≡ w / 2 ^ 31 = omega arith in ap (λ z. w % 2 ^ 31 * 2 ^ z) e

-- One number without its last k digits, as the code makes it.
pub part_up : (p x k : ℕ) → k ≤ x → digits (p * 2 ^ x) ≤ k + 62 → (p * 2 ^ (x - k) % 2 ^ 64 ≡ p * 2 ^ x / 2 ^ k) × (p * 2 ^ (x - k) % 2 ^ 64 < 2 ^ 62)
part_up p x k h l =
    let e : p * 2 ^ x / 2 ^ k ≡ p * 2 ^ (x - k) = ap (λ z. z / 2 ^ k) (zeros_split p x k h) ∙ shl-shr (p * 2 ^ (x - k)) k in
    let s = cut_small (p * 2 ^ x) k 62 l in
    let t : p * 2 ^ (x - k) < 2 ^ 62 = rw e at s in
    let r : p * 2 ^ (x - k) % 2 ^ 64 ≡ p * 2 ^ (x - k) = mod-eq_of_lt (omega arith) in
    (r ∙ sym e, rw r t)

pub part_few : (p x k : ℕ) → 0 < p → digits (p * 2 ^ x) ≤ k + 62 → x - k < 64
part_few p x k h l = omega (arith, digits_shift p x h, digits_least p 0 h)

pub part_far : (p c : ℕ) → p < 2 ^ 64 → 64 ≤ c → p / 2 ^ c ≡ 0
part_far p c h l = div-eq_of_lt (let m : 2 ^ 64 ≤ 2 ^ c = pow_mono l in omega arith)

-- A number whose exponent is given 33 too high.
pub raised_digits : (p x : ℕ) → 33 ≤ x → ((digits (p * 2 ^ x) ≡ 0) × (digits (p * 2 ^ (x - 33)) ≡ 0)) ⊎ (digits (p * 2 ^ x) ≡ digits (p * 2 ^ (x - 33)) + 33)
raised_digits p x h =
    ⊎_elim
    (λ (o : 0 < p). inr (omega (arith, digits_shift p x o, digits_shift p (x - 33) o)))
    (λ (o : p ≤ 0).
    let e : p ≡ 0 = omega arith in
    inl (ap (λ z. digits (z * 2 ^ x)) e ∙ ap digits (zero-mul (2 ^ x)) ∙ digits_none, ap (λ z. digits (z * 2 ^ (x - 33))) e ∙ ap digits (zero-mul (2 ^ (x - 33))) ∙ digits_none))
    (below 0 p)

pub raised_part : (p x k : ℕ) → 33 ≤ x → 33 ≤ k → p * 2 ^ x / 2 ^ k ≡ p * 2 ^ (x - 33) / 2 ^ (k - 33)
raised_part p x k h l =
    let e : 33 + (k - 33) ≡ k = omega arith in
    ap (λ z. z / 2 ^ k) (zeros_split p x 33 h)
    ∙ ap (λ z. p * 2 ^ (x - 33) * 2 ^ 33 / 2 ^ z) (sym e)
    ∙ zeros_cut (p * 2 ^ (x - 33)) 33 (k - 33)

pub times_small : (p m : ℕ) → p < 2 ^ 31 → m < 2 ^ 31 → p * m < 2 ^ 62
times_small p m h l =
    let k : p ≤ 2147483647 = omega arith in
    let n : m ≤ 2147483647 = omega arith in
    omega (arith, mul-le-mul k n)

pub times_value : (p y m e : ℕ) → 33 ≤ e → m * 2 ^ (e - 33) * (p * 2 ^ y) ≡ p * m * 2 ^ (y + e - 33)
times_value p y m e h =
    let k : y + e - 33 ≡ y + (e - 33) = omega arith in
    rw (k, pow-add 2 y (e - 33)) (mul_comm _ _ ∙ mul-mul-mul_comm p (2 ^ y) m (2 ^ (e - 33)))
