-- Numbers that are put together from the fields of a record.
use Prim.Native.Nat.{ℕ, zero, suc, ◌+◌, ◌*◌, ◌%◌, ◌^◌, ◌<◌}
use mathlib.Core.Path.{◌≡◌, refl, ap, ◌∙◌}
use native.Mathlib.Nat.{pow-succ', mod-eq_of_lt}
use native.Mathlib.Omega.{arith}
use lib.Pow.{pow-add}

-- A shift by whole bytes.
shift_bytes : (k : ℕ) → 2 ^ (8 * k) ≡ 256 ^ k
shift_bytes zero = refl
shift_bytes (suc k) =
    let e : 8 * suc k ≡ 8 + 8 * k = omega arith in
    ap (λ z. 2 ^ z) e ∙ pow-add 2 8 (8 * k) ∙ omega (arith, shift_bytes k, pow-succ' 256 k)

pub lifts : (x k : ℕ) → x * 256 ^ k < 18446744073709551616 → x * 2 ^ (8 * k) % 18446744073709551616 ≡ x * 256 ^ k
lifts x k h = let e = ap (λ z. x * z) (shift_bytes k) in ap (λ z. z % 18446744073709551616) e ∙ mod-eq_of_lt h
