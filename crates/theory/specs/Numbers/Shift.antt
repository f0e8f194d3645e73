-- The shift of a number that is rounded: the least with which it fits.
use Rattle.std.specs.Prelude.{ℕ, zero, suc, ◌+◌, ◌*◌, ◌-◌, ◌/◌, ◌^◌, ◌≤◌, ◌<◌, ◌≡◌, refl, Bool, true, false, leb}
use Rattle.std.proofs.Common.{subst, ⊎_elim, arith, div-lt_iff_lt-mul, add-zero, zero-add, leb-true, leb-false}
use Rattle.std.proofs.Math.Nat.{one-le-pow, lt-mul-div-succ}
use Rattle.meaning.specs.Number.{choose}
use Rattle.meaning.specs.Chain.{M}
use Rattle.meaning.specs.Row.{up_to, shift_from, shift_of}
use Rattle.theory.specs.Numbers.Sum.{same, below}

pub pow_whole : (k : ℕ) → 0 < 2 ^ k
pow_whole k = one-le-pow k 2 (omega arith)

pub pow_two : (k : ℕ) → 0 < k → 2 ≤ 2 ^ k
pow_two zero h = absurd (omega arith)
pow_two (suc k) h = omega (arith, pow_whole k)

pow_above : (x : ℕ) → x ≤ 2 ^ x
pow_above zero = omega arith
pow_above (suc x) = omega (arith, pow_above x, pow_whole x)

pub up_above : (x K : ℕ) → 0 < K → x ≤ K * ((x + K - 1) / K)
up_above x K h = omega (arith, lt-mul-div-succ (x + K - 1) h)

pub up_least : (x K y : ℕ) → 0 < K → x ≤ K * y → (x + K - 1) / K ≤ y
up_least x K y h l =
    let q : (x + K - 1) / K < suc y = (div-lt_iff_lt-mul {y = suc y} h).1 (omega arith) in
    omega arith

-- The shift is the least that fits.
abbrev FirstFit : ℕ → ℕ → ℕ → Type 0
FirstFit x k m = (up_to x m ≤ M) × ((j : ℕ) → k ≤ j → j < m → M < up_to x j)

shift_step : (f k x : ℕ) (b : Bool) → leb (up_to x k) M ≡ b → (up_to x (suc k + f) ≤ M → FirstFit x (suc k) (shift_from f (suc k) x))
    → up_to x (k + suc f) ≤ M → FirstFit x k (choose b k (shift_from f (suc k) x))
shift_step f k x true e ih h = (leb-true (up_to x k) M e, λ j a b. absurd (omega arith))
shift_step f k x false e ih h =
    let m = ih (subst (λ z. up_to x z ≤ M) (omega arith) h) in (
      m.0,
      λ j a b.
          ⊎_elim
          (λ (q : j ≡ k). rw q (leb-false (up_to x k) M e))
          (λ (d : j ≡ k → ⊥). m.1 j (omega arith) b)
          (same j k),
    )

shift_from_lem : (f k x : ℕ) → up_to x (k + f) ≤ M → FirstFit x k (shift_from f k x)
unfolding shift_from
shift_from_lem zero k x h = (rw add-zero at h, λ j a b. absurd (omega arith))
shift_from_lem (suc f) k x h = shift_step f k x (leb (up_to x k) M) refl (shift_from_lem f (suc k) x) h

shift_enough : (x : ℕ) → up_to x (0 + x) ≤ M
shift_enough x =
    rw zero-add
    (let a = up_least x (2 ^ x) 1 (pow_whole x) (omega (arith, pow_above x)) in
    omega arith)

pub shift_fits : (x : ℕ) → up_to x (shift_of x) ≤ M
unfolding shift_of
shift_fits x = (shift_from_lem x 0 x (shift_enough x)).0

pub shift_least : (x j : ℕ) → j < shift_of x → M < up_to x j
unfolding shift_of
shift_least x j h = (shift_from_lem x 0 x (shift_enough x)).1 j (omega arith) h

pub shift_is : (x k : ℕ) → up_to x k ≤ M → ((j : ℕ) → j < k → M < up_to x j) → k ≡ shift_of x
shift_is x k h l =
    ⊎_elim
    (λ (a : k < shift_of x). absurd (omega (arith, h, shift_least x k a)))
    (λ (a : shift_of x ≤ k).
    ⊎_elim
    (λ (b : shift_of x < k). absurd (omega (arith, shift_fits x, l (shift_of x) b)))
    (λ (b : k ≤ shift_of x). omega arith)
    (below (shift_of x) k))
    (below k (shift_of x))

pub shift_some : (x : ℕ) → M < x → 0 < shift_of x
shift_some x h =
    ⊎_elim
    (λ (e : shift_of x ≡ 0).
    absurd
    (let a : up_to x 0 ≤ M = subst (λ k. up_to x k ≤ M) e (shift_fits x) in
    omega (arith, up_above x 1 (omega arith))))
    (λ (d : shift_of x ≡ 0 → ⊥). omega arith)
    (same (shift_of x) 0)
