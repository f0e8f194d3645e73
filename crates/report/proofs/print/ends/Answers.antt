use Prim.Native.Nat.{ℕ, ◌<◌, ◌≤◌}
use native.Mathlib.Omega.{arith}
use borrow.Author.Rules.{rules}
use Rattle.report.specs.Lines.{Ends, chain, file}
use Rattle.report.proofs.print.ends.Goals as goal

neither : {n : ℕ} → (1 ≤ n → 11 < n) → (20 ≤ n → 24 < n) → Ends n → ⊥
neither a b (chain l h) = omega (arith, a l, h)
neither a b (file l h) = omega (arith, b l, h)

pub returns-in-1-to-11 : goal.returns-in-1-to-11
returns-in-1-to-11 c = chain (search rules) (search rules)

pub returns-in-1-to-11-2 : goal.returns-in-1-to-11-2
returns-in-1-to-11-2 c = file (search rules) (search rules)

pub returns-in_default : goal.returns-in_default
returns-in_default c = neither (λ l. search rules) (λ l. search rules)

pub returns-in_default-2 : goal.returns-in_default-2
returns-in_default-2 c = neither (λ l. search rules) (λ l. search rules)

pub returns-in_default-3 : goal.returns-in_default-3
returns-in_default-3 c = neither (λ l. search rules) (λ l. search rules)
