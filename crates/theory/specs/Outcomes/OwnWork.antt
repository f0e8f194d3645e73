-- A work table of one's own has room for any chain.
use Rattle.std.specs.Prelude.{ℕ, ◌≤◌, length, replicate}
use Rattle.std.proofs.Common.{arith, mul-le-mul, add-le-add, le_refl}
use Rattle.std.proofs.lemmas.List.{length-replicate}
use Rattle.meaning.specs.Chain.{most_states}
use Rattle.meaning.specs.Refusal.{work_size}

pub own_room : (n : ℕ) → n ≤ most_states → work_size n ≤ length {A = ℕ} (replicate (work_size most_states) 0)
own_room n h = omega (arith, mul-le-mul h (add-le-add h (le_refl 4)), length-replicate {A = ℕ} (work_size most_states) 0)
