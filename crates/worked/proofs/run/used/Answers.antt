use Rattle.std.proofs.Common.{ℕ, ◌≤◌, ◌+◌, ◌*◌, arith}
use native.Mathlib.Nat.{mul-le-mul}
use Rattle.worked.proofs.run.used.Goals as goal

small : (n : ℕ) → n ≤ 64 → n * (n + 4) ≤ 4352
small n h = mul-le-mul {n₂ = 64} {m₂ = 68} h (omega arith)

pub overflow_mul-result : goal.overflow_mul-result
overflow_mul-result c = omega (arith, small c.args.n (omega arith))

pub returns : goal.returns
returns c = omega (arith, small c.args.n (omega arith))
