-- The rounds of a chain whose equations can be asked, and whose denominators are above 0: one round by cases, and the product of all denominators.
use Rattle.std.specs.Prelude.{ℕ, zero, suc, ◌*◌, ◌/◌, ◌^◌, ◌<◌, ◌≡◌, Bool, true, false, eqb}
use Rattle.std.proofs.Common.{sym, ap, ◌∙◌, arith, mul-pos}
use Rattle.std.proofs.Math.Nat.{mul-div_cancel_left, pow-zero, pow-succ'}
use Rattle.meaning.specs.Number.{only, choose, bit}
use Rattle.meaning.specs.Chain.{Chain, denominator, along}
use Rattle.meaning.specs.Within.{all_parts, held, product_to, common, reached_in}
use Rattle.theory.specs.Numbers.Sum.{last_or_below}
use Rattle.theory.specs.Chains.Fine.{Fine}

-- What the rounds ask of a chain.
pub record Ready (c : Chain) : Type 0 where
  pub fine : Fine c
  pub some : (i : ℕ) → i < c.states → 0 < denominator c i

-- A factor of a product, and a product of numbers above 0.
factor : (f : ℕ → ℕ) (n j : ℕ) → j < n → (q : ℕ) × (product_to f n ≡ f j * q)
unfolding product_to
factor f zero j h = absurd (omega arith)
factor f (suc n) j h =
    last_or_below h
    (λ (e : j ≡ n). (product_to f n, rw e (omega arith)))
    (λ (l : j < n). let w = factor f n j l in (w.0 * f n, omega (arith, ap (λ z. z * f n) w.1)))

product_some : (f : ℕ → ℕ) (n : ℕ) → ((i : ℕ) → i < n → 0 < f i) → 0 < product_to f n
unfolding product_to
product_some f zero h = omega arith
product_some f (suc n) h = mul-pos (product_some f n (λ i l. h i (omega arith))) (h n (omega arith))

power_some : (x : ℕ) → 0 < x → (k : ℕ) → 0 < x ^ k
power_some x h zero = rw (pow-zero x) (omega arith)
power_some x h (suc k) = rw (pow-succ' x k) (mul-pos h (power_some x h k))

-- One round, by cases on the goals: what the rounded and the true one give.
pub rounds : (c : Chain) (P : ℕ → ℕ → Type 0) (k i : ℕ) → P all_parts (common c ^ suc k)
    → P (along c i (held c k) / denominator c i) (along c i (reached_in c k) * (common c / denominator c i))
    → P (held c (suc k) i) (reached_in c (suc k) i)
unfolding held reached_in
rounds c P k i p q = go (eqb (bit c.goals i) 1)
  where
    go : (b : Bool)
        → P (choose b all_parts (along c i (held c k) / denominator c i))
        (choose b (common c ^ suc k) (along c i (reached_in c k) * (common c / denominator c i)))
    go true = p
    go false = q

pub begins : (c : Chain) (P : ℕ → ℕ → Type 0) (i : ℕ) → P all_parts 1 → P 0 0 → P (held c 0 i) (reached_in c 0 i)
unfolding held reached_in
begins c P i p q = go (eqb (bit c.goals i) 1)
  where
    go : (b : Bool) → P (only b all_parts) (only b 1)
    go true = p
    go false = q

module _ {c : Chain} (ready : Ready c) where
  -- The division in reached_in leaves nothing.
  pub share_whole : (i : ℕ) → i < c.states → denominator c i * (common c / denominator c i) ≡ common c
  share_whole i h =
      let w = factor (denominator c) c.states i h in
      let e : common c / denominator c i ≡ w.0 = ap (λ z. z / denominator c i) w.1 ∙ mul-div_cancel_left w.0 (ready.some i h) in
      rw e (sym w.1)

  pub common_some : (k : ℕ) → 0 < common c ^ k
  common_some = power_some (common c) (product_some (denominator c) c.states ready.some)
