-- The goal set, gathered flag by flag.
use Prim.Native.Nat.{ℕ, ◌+◌, ◌*◌, ◌%◌, ◌^◌, ◌≤◌, ◌<◌}
use mathlib.Core.Path.{◌≡◌, refl, sym, ap, ◌∙◌}
use native.Mathlib.Nat.{mul-le-mul_right, pow-succ', pow-le-pow_right, mod-eq_of_lt}
use native.Mathlib.Numerals.{add-one}
use native.Mathlib.Omega.{arith}
use Rattle.meaning.specs.Number.{sum_to}
use Rattle.theory.specs.Numbers.Sum.{sum_next}

-- The flags before i.
pub record Gathered (flag : ℕ → ℕ) (count i goals : ℕ) : Type 0 where
  pub upto : i ≤ count
  pub is : goals ≡ sum_to (λ k. flag k * 2 ^ k) i
  pub below : goals < 2 ^ i

module _ {flag : ℕ → ℕ} {count : ℕ} where
  pub none : Gathered flag count 0 0
  unfolding sum_to
  none = record { upto = omega arith; is = refl; below = omega arith }

  module _ {i goals b : ℕ} (g : Gathered flag count i goals) (h : i < count) (m : count ≤ 64) (e : b ≡ flag i) (l : flag i ≤ 1) where
    -- One more flag doubles the bound.
    room : (b * 2 ^ i ≤ 2 ^ i) × (2 ^ (i + 1) ≡ 2 * 2 ^ i) × (2 ^ (i + 1) ≤ 2 ^ 64)
    room = (
      let u : b ≤ 1 = omega arith in omega (arith, mul-le-mul_right (2 ^ i) u),
      ap (λ z. 2 ^ z) (add-one i) ∙ pow-succ' 2 i,
      pow-le-pow_right {n = 2} (omega arith) {i = i + 1} {j = 64} (omega arith),
    )

    -- The flag's bit is not shifted out.
    bit : b * 2 ^ i % 18446744073709551616 ≡ b * 2 ^ i
    bit = mod-eq_of_lt (omega (arith, g.below, room))

    pub small : goals + b * 2 ^ i % 18446744073709551616 < 2 ^ 64
    small = omega (arith, g.below, room, bit)

    pub more : Gathered flag count (i + 1) (goals + b * 2 ^ i % 18446744073709551616)
    more =
        record {
          upto = omega arith;
          is = rw (bit, g.is, e) (sym (sum_next (λ k. flag k * 2 ^ k) i (i + 1) (add-one i)));
          below = omega (arith, g.below, room, bit);
        }

  pub all : {i goals : ℕ} → Gathered flag count i goals → count ≤ i → goals ≡ sum_to (λ k. flag k * 2 ^ k) count
  all {i} g h = let e : i ≡ count = omega (arith, g.upto) in g.is ∙ ap (λ z. sum_to (λ k. flag k * 2 ^ k) z) e
