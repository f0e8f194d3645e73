-- At the end a state is picked, since one is left.
use Prim.Native.Nat.{ℕ, ◌^◌, ◌<◌}
use mathlib.Core.Path.{◌≡◌}
use native.Mathlib.Omega.{arith}
use native.Mathlib.Nat.{zero-div}
use Rattle.std.proofs.Common.{Option, None, Some, IsSome, rules}
use Rattle.meaning.specs.Number.{bit}
use Rattle.theory.specs.Numbers.Bits.{set_apart}
use Rattle.choice.specs.Turns.{Held, Best}
use Rattle.choice.specs.declared.turns.Pick.{Pick}

pub best_some : (left n : ℕ) (value : ℕ → ℕ) (best : Option Pick) → 0 < left → ((i : ℕ) → Held left i → i < n) → Best (Held left) value n best → IsSome best
best_some left n value None h inside f =
    let w = set_apart left 0 (λ z. omega (arith, h, z)) in
    let b : bit left w.0 ≡ 1 = omega (arith, w.1, zero-div (2 ^ w.0)) in
    absurd (f w.0 (inside w.0 b) b)
best_some left n value (Some pick) h inside b = search rules
