-- Where a count rises by one at each number that passes a test, a window of b of its values has at most b such numbers.
use Prim.Native.Nat.{ℕ, zero, suc, ◌+◌, ◌-◌, ◌≤◌, ◌<◌}
use Rattle.std.specs.Prelude.{◌≡◌, Bool, true}
use Rattle.std.proofs.Math.Logic.{⊎_elim}
use native.Mathlib.Omega.{arith}
use Rattle.meaning.specs.Number.{sum_to, only}
use Rattle.theory.specs.Numbers.Sum.{same}

-- The count so far is `risen`; h counts at most once, and only numbers that pass the test g with a count from a + 1 to a + b.
module _ (g : ℕ → Bool) (a b : ℕ) (h : ℕ → ℕ) where
  abbrev risen : ℕ → ℕ
  risen q = sum_to (λ r. only (g r) 1) q

  pub window : (m : ℕ) → ((q : ℕ) → q < m → h q ≤ 1)
      → ((q : ℕ) → q < m → 0 < h q → (g q ≡ true) × (a < risen q) × (risen q ≤ a + b))
      → (sum_to h m ≤ b) × (sum_to h m ≤ risen m - suc a)
  unfolding sum_to
  window zero small inside = (omega arith, omega arith)
  window (suc m) small inside =
      let rest = window m (λ q l. small q (omega arith)) (λ q l. inside q (omega arith)) in
      ⊎_elim
      (λ (e : h m ≡ 0). (omega (arith, rest.0), omega (arith, rest.1)))
      (λ (d : h m ≡ 0 → ⊥).
      let w = inside m (omega arith) (omega arith) in
      let up : only (g m) 1 ≡ 1 = rw w.0 in
      (omega (arith, small m (omega arith), rest.1, w.1, w.2), omega (arith, small m (omega arith), rest.1, w.1, up)))
      (same (h m) 0)
