-- A number that is read byte by byte, the least byte first.
use Rattle.std.specs.Prelude.{ℕ, zero, suc, ◌+◌, ◌*◌, ◌^◌, ◌≤◌, ◌<◌, ◌≡◌, refl, List, length, get_or}
use Rattle.std.proofs.Common.{sym, ap, ◌∙◌, mul-le-mul_right, add-one}
use Rattle.std.proofs.Math.ListN.{get_or-eq_default}
use Rattle.std.proofs.Math.Nat.{pow-succ', pow-le-pow_right}
use native.Mathlib.Omega.{arith}
use Rattle.meaning.specs.Number.{sum_to}
use Rattle.theory.specs.Numbers.Sum.{sum_next, sum_zero}

-- After i of the bytes: the number so far, and what the next byte counts.
pub record Gathered (digit : ℕ → ℕ) (width i number unit : ℕ) : Type 0 where
  pub upto : i ≤ width
  pub counts : unit ≡ 256 ^ i
  pub is : number ≡ sum_to (λ k. digit k * 256 ^ k) i
  pub below : number < unit

module _ {digit : ℕ → ℕ} {width : ℕ} where
  pub none : Gathered digit width 0 0 1
  unfolding sum_to
  none = record { upto = omega arith; counts = refl; is = refl; below = omega arith }

  module _ {i number unit : ℕ} (g : Gathered digit width i number unit) where
    pub small : i < width → width ≤ 4 → unit ≤ 16777216
    small h w = rw g.counts (pow-le-pow_right {n = 256} (omega arith) {i = i} {j = 3} (omega arith))

    -- What one more byte counts is small too.
    pub product : {b : ℕ} → b < 256 → b * unit ≤ 255 * unit
    product l = mul-le-mul_right unit (omega arith)

    pub more : {b : ℕ} → i < width → b ≡ digit i → b < 256 → Gathered digit width (i + 1) (number + b * unit) (unit * 256)
    more {b} h e l =
        record {
          upto = omega arith;
          counts = omega (arith, g.counts, ap (λ z. 256 ^ z) (add-one i), pow-succ' 256 i);
          is = sym (sum_next (λ k. digit k * 256 ^ k) i (i + 1) (add-one i) ∙ rw (← g.is, ← e, ← g.counts));
          below = omega (arith, g.below, product l);
        }

    pub all : width ≤ i → (number ≡ sum_to (λ k. digit k * 256 ^ k) width) × (number < 256 ^ width)
    all h =
        let e : i ≡ width = omega (arith, g.upto) in
        (g.is ∙ ap (λ z. sum_to (λ k. digit k * 256 ^ k) z) e, omega (arith, g.below, g.counts, ap (λ z. 256 ^ z) e))

-- Past the end of the bytes there is nothing.
pub past : (bytes : List ℕ) (at width : ℕ) → length bytes ≤ at → 0 ≡ sum_to (λ k. get_or bytes (at + k) 0 * 256 ^ k) width
past bytes at width h =
    sym (sum_zero _ width (λ k l. ap (λ z. z * 256 ^ k) (get_or-eq_default bytes 0 (omega arith)) ∙ omega arith))

pub power : (width : ℕ) → 0 < 256 ^ width
power width = pow-le-pow_right {n = 256} (omega arith) {i = 0} {j = width} (omega arith)

-- What counts nothing may be left out.
pub stays : (f : ℕ → ℕ) (n k : ℕ) → ((j : ℕ) → n ≤ j → f j ≡ 0) → sum_to f n ≡ sum_to f (n + k)
stays f n zero h = let e : n ≡ n + zero = omega arith in ap (sum_to f) e
stays f n (suc k) h = omega (arith, stays f n k h, sum_next f (n + k) (n + suc k) (omega arith), h (n + k) (omega arith))
