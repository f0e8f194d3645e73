-- The lowest state of a set, and the others.
use Prim.Native.Nat.{ℕ, zero, suc, ◌-◌, ◌/◌, ◌%◌, ◌^◌, ◌<◌, min}
use mathlib.Core.Path.{◌≡◌, refl, sym, ap, ◌∙◌}
use mathlib.Core.Logic.{⊎_elim}
use native.Mathlib.Omega.{arith}
use native.Mathlib.Nat.{zero-div, mod-eq_of_lt}
use lib.Bits.{bit_and, and_step, and_self}
use lib.Count.{count_trailing_zeros}
use Rattle.meaning.specs.Chain.{most_states}
use Rattle.meaning.specs.Number.{bit}
use Rattle.theory.specs.Numbers.Sum.{same}
use Rattle.theory.specs.Numbers.Twos.{twos}
use Rattle.theory.specs.Numbers.Bits.{bit_zero, bit_suc}
use Rattle.chain.specs.Rising.{Lowest}

-- The set of one of the states.
pub alone_in : {j r : ℕ} → r ≡ 2 ^ (j % most_states) → j < most_states → r ≡ 2 ^ j
alone_in {j} e h = e ∙ ap (λ z. 2 ^ z) (mod-eq_of_lt {n = j} {m = most_states} h)

-- The count of zeros below the lowest one.
even : (k s i : ℕ) → i < count_trailing_zeros (suc k) s → s % 2 ≡ 0
unfolding count_trailing_zeros
even k s i h =
    ⊎_elim
    (λ (e : s % 2 ≡ 0). e)
    (λ (d : s % 2 ≡ 0 → ⊥). let e : s % 2 ≡ 1 = omega arith in absurd (omega (arith, rw e at h)))
    (same (s % 2) 0)

pub zeros_below : (k s i : ℕ) → i < count_trailing_zeros k s → bit s i ≡ 0
unfolding count_trailing_zeros
zeros_below zero s i h = absurd (omega arith)
zeros_below (suc k) s zero h = bit_zero s ∙ even k s 0 h
zeros_below (suc k) s (suc i) h =
    let l : suc i < suc (count_trailing_zeros k (s / 2)) = rw (even k s (suc i) h) at h in
    bit_suc s i ∙ zeros_below k (s / 2) i (omega arith)

pub one_at : (k s : ℕ) → 0 < s → s < 2 ^ k → (bit s (count_trailing_zeros k s) ≡ 1) × (count_trailing_zeros k s < k)
one_at k s h l = let w = twos k s h l in (w.odd, w.less)

-- A set and the number before it have the others of its states in common.
module _ (s : ℕ) where
  and_half : (b : ℕ) → bit_and s b / 2 ≡ bit_and (s / 2) (b / 2)
  and_half b = omega (arith, and_step s b)

  and_low : (b : ℕ) → bit_and s b % 2 ≡ min (s % 2) (b % 2)
  and_low b = omega (arith, and_step s b)

lowest_half : (s t : ℕ) → Lowest s (suc t) → Lowest (s / 2) t
lowest_half s t h =
    record {
      inside = sym (bit_suc s t) ∙ h.inside;
      least = λ i l. sym (bit_suc s i) ∙ h.least (suc i) (omega arith);
      small = omega (arith, h.small);
    }

some_state : (s i : ℕ) → bit s i ≡ 1 → 0 < s
some_state zero i b = absurd (omega (arith, rw (zero-div (2 ^ i)) at b))
some_state (suc s) i b = omega arith

pub others_gone : (t s : ℕ) → Lowest s t → bit (bit_and s (s - 1)) t ≡ 0
others_gone zero s h =
    let o : s % 2 ≡ 1 = sym (bit_zero s) ∙ h.inside in
    bit_zero _ ∙ omega (arith, and_low s (s - 1))
others_gone (suc t) s h =
    let e : s % 2 ≡ 0 = sym (bit_zero s) ∙ h.least 0 (omega arith) in
    let p = some_state s (suc t) h.inside in
    let q : (s - 1) / 2 ≡ s / 2 - 1 = omega arith in
    bit_suc _ t ∙ rw (and_half s (s - 1), q) (others_gone t (s / 2) (lowest_half s t h))

pub others_kept : (t s i : ℕ) → Lowest s t → (i ≡ t → ⊥) → bit (bit_and s (s - 1)) i ≡ bit s i
others_kept zero s zero h d = absurd (d refl)
others_kept zero s (suc i) h d =
    let o : s % 2 ≡ 1 = sym (bit_zero s) ∙ h.inside in
    let q : (s - 1) / 2 ≡ s / 2 = omega arith in
    bit_suc _ i ∙ rw (and_half s (s - 1), q, and_self (s / 2)) (sym (bit_suc s i))
others_kept (suc t) s zero h d =
    let e : s % 2 ≡ 0 = sym (bit_zero s) ∙ h.least 0 (omega arith) in
    bit_zero _ ∙ omega (arith, and_low s (s - 1), bit_zero s)
others_kept (suc t) s (suc i) h d =
    let e : s % 2 ≡ 0 = sym (bit_zero s) ∙ h.least 0 (omega arith) in
    let p = some_state s (suc t) h.inside in
    let q : (s - 1) / 2 ≡ s / 2 - 1 = omega arith in
    bit_suc _ i ∙ rw (and_half s (s - 1), q) (others_kept t (s / 2) i (lowest_half s t h) (λ z. d (omega arith))) ∙ sym (bit_suc s i)
