-- What a scan has passed.
use Prim.Native.Nat.{ℕ, ◌+◌, ◌≤◌, ◌<◌}
use native.Mathlib.Omega.{arith}
use borrow.Author.Count.{below_more}

-- P holds nowhere below i, and i is at most n.
abbrev pub NoneBelow : (ℕ → Type 0) → ℕ → ℕ → Type 0
NoneBelow P n i = (i ≤ n) × ((k : ℕ) → k < i → P k → ⊥)

module _ {P : ℕ → Type 0} {n i : ℕ} (s : NoneBelow P n i) where
  pub pass : i < n → (P i → ⊥) → NoneBelow P n (i + 1)
  pass h not = (omega arith, below_more (λ k. P k → ⊥) i s.1 not)

  pub done : n ≤ i → ((k : ℕ) → P k → k < n) → (k : ℕ) → P k → ⊥
  done h within k f = let l = within k f in s.1 k (omega arith) f
