-- Laws of the bits of a number, and of one that is made from others.
use Rattle.std.specs.Prelude.{ℕ, zero, suc, ◌+◌, ◌*◌, ◌/◌, ◌%◌, ◌^◌, ◌≤◌, ◌<◌, min, max, ◌≡◌, refl, false, ◌⊎◌, ◌↔◌, eqb}
use Rattle.std.proofs.Common.{sym, ◌∙◌, inl, inr, ⊎_elim, arith, div-one, mod-lt, mod-eq_of_lt, one-mul}
use Rattle.std.proofs.Math.Nat.{pow-succ', pow-le-pow_right, div-div-eq-div-mul, div-eq_of_lt, zero-div}
use Rattle.std.specs.Int.Bits.{bit_and, bit_or, bit_xor, differ, and_step, or_step, xor_step}
use Rattle.std.proofs.lemmas.Nat.{and_shr, or_shr, xor_shr}
use Rattle.std.proofs.Math.Pow.{pow-lt}
use Rattle.std.proofs.lemmas.Bool.{eqb-false}
use Rattle.meaning.specs.Number.{bit}
use Rattle.meaning.specs.Chain.{most_states}
use Rattle.theory.specs.Numbers.Sum.{same, below}

pub bit_zero : (s : ℕ) → bit s 0 ≡ s % 2
bit_zero s = rw (div-one s)

pub bit_suc : (s i : ℕ) → bit s (suc i) ≡ bit (s / 2) i
bit_suc s i = rw (pow-succ' 2 i, div-div-eq-div-mul s 2 (2 ^ i))

-- A number below 2 ^ n has no bits from n on.
pub bit_below : (s n i : ℕ) → s < 2 ^ n → bit s i ≡ 1 → i < n
bit_below s n i l b =
    ⊎_elim
    (λ (h : i < n). h)
    (λ (h : n ≤ i).
    let m : 2 ^ n ≤ 2 ^ i = pow-le-pow_right {n = 2} (omega arith) h in
    absurd (omega (arith, rw (div-eq_of_lt {n = s} {m = 2 ^ i} (omega arith)) at b)))
    (below i n)

-- Two numbers with the same bits are one.
bits_in : (k s t : ℕ) → s ≤ k → t ≤ k → ((i : ℕ) → bit s i ≡ bit t i) → s ≡ t
bits_in zero s t h l e = omega arith
bits_in (suc k) s t h l e =
    let first : s % 2 ≡ t % 2 = sym (bit_zero s) ∙ e 0 ∙ bit_zero t in
    let rest : s / 2 ≡ t / 2 =
    bits_in k (s / 2) (t / 2) (omega arith) (omega arith) (λ i. sym (bit_suc s i) ∙ e (suc i) ∙ bit_suc t i) in
    omega arith

pub bits_same : {s t : ℕ} → ((i : ℕ) → bit s i ≡ bit t i) → s ≡ t
bits_same {s} {t} e = bits_in (s + t) s t (omega arith) (omega arith) e

pub bit_small : (s i : ℕ) → bit s i < 2
bit_small s i = mod-lt (s / 2 ^ i) (omega arith)

-- The last digit of a number that is given by its digits.
digit : (x r c : ℕ) → x ≡ r * 2 + c → c < 2 → x % 2 ≡ c
digit x r c e h = omega arith

differ_two : (x y : ℕ) → x < 2 → y < 2 → differ x y < 2
differ_two zero y h l = l
differ_two (suc zero) zero h l = h
differ_two (suc zero) (suc zero) h l = omega arith
differ_two (suc zero) (suc (suc y)) h l = absurd (omega arith)
differ_two (suc (suc x)) y h l = absurd (omega arith)

bit_and_lem : (a b i : ℕ) → bit (bit_and a b) i ≡ min (bit a i) (bit b i)
bit_and_lem a b i = rw and_shr (digit _ _ _ (and_step (a / 2 ^ i) (b / 2 ^ i)) (omega arith))

bit_or_lem : (a b i : ℕ) → bit (bit_or a b) i ≡ max (bit a i) (bit b i)
bit_or_lem a b i = rw or_shr (digit _ _ _ (or_step (a / 2 ^ i) (b / 2 ^ i)) (omega arith))

bit_xor_lem : (a b i : ℕ) → bit (bit_xor a b) i ≡ differ (bit a i) (bit b i)
bit_xor_lem a b i = rw xor_shr (digit _ _ _ (xor_step (a / 2 ^ i) (b / 2 ^ i)) (differ_two (bit a i) (bit b i) (omega arith) (omega arith)))

-- What is in both of two sets, in one of them, and in the first without the second.
pub in_both : (a b i : ℕ) → (bit (bit_and a b) i ≡ 1) ↔ ((bit a i ≡ 1) × (bit b i ≡ 1))
in_both a b i = let e = bit_and_lem a b i in (λ h. (omega arith, omega arith), λ h. omega (arith, h.0, h.1))

pub in_either : (a b i : ℕ) → (bit (bit_or a b) i ≡ 1) ↔ ((bit a i ≡ 1) ⊎ (bit b i ≡ 1))
in_either a b i = (there, back)
  where
    there : bit (bit_or a b) i ≡ 1 → (bit a i ≡ 1) ⊎ (bit b i ≡ 1)
    there h =
        ⊎_elim (λ (e : bit a i ≡ 1). inl e) (λ (n : bit a i ≡ 1 → ⊥). inr (omega (arith, bit_or_lem a b i))) (same (bit a i) 1)

    back : (bit a i ≡ 1) ⊎ (bit b i ≡ 1) → bit (bit_or a b) i ≡ 1
    back (inl h) = omega (arith, bit_or_lem a b i)
    back (inr h) = omega (arith, bit_or_lem a b i)

apart : (x y z : ℕ) → x < 2 → y < 2 → z ≡ min x y → (differ x z ≡ 1) ↔ ((x ≡ 1) × (y ≡ 1 → ⊥))
apart zero y z h l e = let n : z ≡ 0 = omega arith in rw n (λ q. absurd (omega arith), λ q. absurd (omega (arith, q.0)))
apart (suc zero) zero z h l e = let n : z ≡ 0 = omega arith in rw n (λ q. (refl, λ r. omega arith), λ q. refl)
apart (suc zero) (suc y) z h l e = let n : z ≡ 1 = omega arith in rw n (λ q. absurd (omega arith), λ q. absurd (q.1 (omega arith)))
apart (suc (suc x)) y z h l e = absurd (omega arith)

pub in_first : (a b i : ℕ) → (bit (bit_xor a (bit_and a b)) i ≡ 1) ↔ ((bit a i ≡ 1) × (bit b i ≡ 1 → ⊥))
in_first a b i =
    rw (bit_xor_lem a (bit_and a b) i) (apart (bit a i) (bit b i) (bit (bit_and a b) i) (omega arith) (omega arith) (bit_and_lem a b i))

-- The set of one state.
pub in_one : (j i : ℕ) → (bit (2 ^ j) i ≡ 1) ↔ (i ≡ j)
in_one zero zero = (λ h. refl, λ h. refl)
in_one zero (suc i) = (λ h. absurd (omega (arith, bit_below 1 1 (suc i) (omega arith) h)), λ h. absurd (omega arith))
in_one (suc j) zero = (λ h. absurd (omega (arith, pow-succ' 2 j, bit_zero (2 ^ suc j))), λ h. absurd (omega arith))
in_one (suc j) (suc i) =
    let half : 2 ^ suc j / 2 ≡ 2 ^ j = omega (arith, pow-succ' 2 j) in
    rw (bit_suc (2 ^ suc j) i, half)
    (λ h. let e = (in_one j i).0 h in omega arith, λ h. (in_one j i).1 (omega arith))

-- It as the code makes it, by a shift of 1.
pub one_set : (j : ℕ) → j < most_states → 1 * 2 ^ j % 18446744073709551616 ≡ 2 ^ j
one_set j h =
    let small : 2 ^ j < 18446744073709551616 = pow-lt h in
    mod-eq_of_lt {n = 1 * 2 ^ j} {m = 18446744073709551616} (omega arith) ∙ one-mul _

-- A set of states below n is a number below 2 ^ n.
pub set_below : (n s : ℕ) → ((i : ℕ) → bit s i ≡ 1 → i < n) → s < 2 ^ n
set_below zero s h =
    let out : (i : ℕ) → bit s i ≡ 1 → ⊥ = λ i q. let k = h i q in omega arith in
    let e : s ≡ 0 = bits_same (λ i. rw (zero-div (2 ^ i)) (omega (arith, out i))) in
    omega arith
set_below (suc n) s h =
    let l : s / 2 < 2 ^ n = set_below n (s / 2) (λ i q. let k = h (suc i) (bit_suc s i ∙ q) in omega arith) in
    omega (arith, pow-succ' 2 n)

-- Of two sets that differ, one has a state that the other has not.
pub set_apart : (s t : ℕ) → (s ≡ t → ⊥) → (i : ℕ) × (bit s i ≡ bit t i → ⊥)
set_apart s t d = apart_in (s + t) s t (omega arith) (omega arith) d
  where
    apart_in : (k s t : ℕ) → s ≤ k → t ≤ k → (s ≡ t → ⊥) → (i : ℕ) × (bit s i ≡ bit t i → ⊥)
    apart_in zero s t h l d = absurd (d (omega arith))
    apart_in (suc k) s t h l d =
        ⊎_elim
        (λ (e : s % 2 ≡ t % 2).
        let w = apart_in k (s / 2) (t / 2) (omega arith) (omega arith) (λ q. d (omega arith)) in
        (suc w.0, λ q. w.1 (sym (bit_suc s w.0) ∙ q ∙ bit_suc t w.0)))
        (λ (n : s % 2 ≡ t % 2 → ⊥). (0, λ q. n (sym (bit_zero s) ∙ q ∙ bit_zero t)))
        (same (s % 2) (t % 2))

-- A set with one state more.
pub in_joined : (set j t : ℕ) → (bit (bit_or set (2 ^ j)) t ≡ 1) ↔ ((bit set t ≡ 1) ⊎ (t ≡ j))
in_joined set j t = (
  λ b.
      ⊎_elim
      (λ (o : bit set t ≡ 1). inl o)
      (λ (o : bit (2 ^ j) t ≡ 1). inr ((in_one j t).0 o))
      ((in_either set (2 ^ j) t).0 b),
  λ w.
      (in_either set (2 ^ j) t).1
      (⊎_elim (λ (o : bit set t ≡ 1). inl o) (λ (o : t ≡ j). inr ((in_one j t).1 o)) w),
)

-- The empty set, and a state that is not in a set.
pub nothing_in : (i : ℕ) → bit 0 i ≡ 1 → ⊥
nothing_in i b = omega (arith, rw (zero-div (2 ^ i)) at b)

pub zero_bit : (set i : ℕ) → eqb (bit set i) 1 ≡ false → 0 ≡ bit set i
zero_bit set i e = let d = eqb-false (bit set i) 1 e in omega (arith, d)
