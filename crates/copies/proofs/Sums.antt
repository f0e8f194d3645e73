-- The row sums as the code works them out: they fit, and are those of the chain.
use Prim.Native.Nat.{ℕ, ◌+◌, ◌*◌, ◌≤◌, ◌<◌}
use mathlib.Core.Path.{◌≡◌, sym}
use native.Mathlib.Omega.{arith}
use native.Mathlib.Nat.{mul-le-mul}
use Rattle.meaning.specs.Chain.{row_sum}
use Rattle.meaning.specs.Copies.{most_copies, most_weight, Plan, Sensible, copies_edges}
use Rattle.theory.specs.Plans.Formed.{in_range_lem}
use Rattle.theory.specs.Plans.Sums.{row_between, row_full, row_empty, row_done}

module _ {j : Plan} (sensible : Sensible j) where
  pub lost_small : (k : ℕ) → k ≤ j.copies → k * j.loss ≤ most_copies * most_weight
  lost_small k h =
      let r = in_range_lem sensible in
      let few : k ≤ most_copies = omega (arith, r.few) in
      mul-le-mul few r.loss_small

  pub sum_empty : {k : ℕ} → k ≡ 0 → 1 ≡ row_sum (copies_edges j) k
  sum_empty e = rw e (sym (row_empty j))

  pub sum_done : {k : ℕ} → k ≡ j.copies + 1 → 1 ≡ row_sum (copies_edges j) k
  sum_done e = rw e (sym (row_done j))

  pub sum_full : {k : ℕ} → k ≡ j.copies → k * j.loss + j.finish ≡ row_sum (copies_edges j) k
  sum_full e = rw e (sym (row_full j (in_range_lem sensible).some))

  pub sum_between : {k : ℕ} → 0 < k → k < j.copies → k * j.loss + j.rebuild + j.finish ≡ row_sum (copies_edges j) k
  sum_between {k} s h = sym (row_between j k s h)
