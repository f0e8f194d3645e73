-- Four numbers that are stored one after the other.
use Prim.Native.Nat.{ℕ, ◌≤◌}
use mathlib.Core.Path.{◌≡◌}
use mathlib.Core.List.{List}
use native.Mathlib.Omega.{arith}
use lib.ListN.{length}
use Rattle.meaning.specs.Number.{tab_from, filled}
use Rattle.meaning.specs.Call.{answer_length, four_bytes, answer_bytes}
use Rattle.octets.specs.Written.{Stored}
use Rattle.octets.proofs.Steps.{kept, join, whole}
use Rattle.octets.proofs.Storing.{stored}

pub four_numbers : {l₀ l₁ l₂ l₃ l₄ : List ℕ} {i j k m : ℕ} (p q s t : ℕ) → answer_length ≤ length l₀ → Stored l₀ 0 (four_bytes p) l₁ i
    → Stored l₁ i (four_bytes q) l₂ j → Stored l₂ j (four_bytes s) l₃ k → Stored l₃ k (four_bytes t) l₄ m → l₄ ≡ filled (answer_bytes p q s t) l₀
unfolding tab_from
four_numbers p q s t h a b c d =
    let first = stored (omega arith) a in
    let second = stored (omega (arith, first.past, kept first)) b in
    let third = stored (omega (arith, first.past, kept first, second.past, kept second)) c in
    let fourth = stored (omega (arith, first.past, kept first, second.past, kept second, third.past, kept third)) d in
    whole (join (join (join first second) third) fourth)
