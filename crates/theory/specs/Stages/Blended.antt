-- A row made anew: times a power of two, its weights are those of an exact step, rounded down.
use Rattle.std.specs.Prelude.{ℕ, ◌+◌, ◌*◌, ◌/◌, ◌^◌, ◌≤◌, ◌<◌, ◌≡◌, ◌⊎◌, eqb}
use Rattle.std.proofs.Common.{◌∙◌}
use Rattle.std.proofs.Math.Logic.{inl, inr, ⊎_elim}
use native.Mathlib.Omega.{arith}
use Rattle.std.proofs.Math.Nat.{zero-div}
use Rattle.std.proofs.Math.ListN.{length}
use Rattle.meaning.specs.Number.{sum_to, choose}
use Rattle.meaning.specs.Row.{Row, cell, over}
use Rattle.meaning.specs.Step.{outside, combined}
use Rattle.meaning.specs.Near.{top, longest, near_outside, least_spare, blended, lowered}
use Rattle.theory.specs.Numbers.Sum.{below, sum_next, sum_term, sum_hole, sum_find}
use Rattle.theory.specs.Numbers.Tab.{tab_at, tab_length}
use Rattle.theory.specs.Numbers.Tops.{top_none, top_trimmed, top_parts, first_small, top_twice, top_cut}
use Rattle.theory.specs.Numbers.Cuts.{sum_trimmed, least_below, spare_found}
use Rattle.theory.specs.Numbers.Trimmed.{Trimmed, trimmed_next, trimmed_more}
use Rattle.theory.specs.Numbers.Sure.{row_loss}
use Rattle.theory.specs.Rows.Terms.{over_cell, over_length}
use Rattle.theory.specs.Stages.Seen.{combined_trimmed}

-- D is rounded.
pub outside_trimmed : (n s : ℕ) (p : Row) → n ≤ 64 → s < n → cell p (n + 3) ≡ 0 → Trimmed (2 ^ 48) (2 ^ 18 + 1) (outside n s p) (near_outside n s p)
unfolding near_outside
outside_trimmed n s p few inside free =
    let f : ℕ → ℕ = λ j. choose (eqb j s) 0 (cell p j) in
    let e : outside n s p ≡ sum_to f (n + 4) =
    omega (arith, sum_hole (cell p) (n + 4) s (omega arith), sum_next (cell p) (n + 3) (n + 4) (omega arith)) in
    rw e (sum_trimmed f (n + 4) (omega arith))

-- One of the first m weights of a row is above 0 and below 2 ^ 31, or all are 0.
abbrev pub Low : ℕ → Row → Type 0
Low m r = ((j : ℕ) → j < m → cell r j ≡ 0) ⊎ ((j : ℕ) × (j < m) × (0 < cell r j) × (cell r j < 2 ^ 31))

times_some : (x y : ℕ) → 0 < x * y → 0 < y
times_some x y h =
    ⊎_elim (λ (l : 0 < y). l) (λ (l : y ≤ 0). let z : y ≡ 0 = omega arith in absurd (omega (arith, rw z at h))) (below 0 y)

module _ (n s : ℕ) (p r : Row) where
  abbrev mix : Row
  mix = combined s (near_outside n s p) p r

  pub blended_length : length (blended n s p r) ≡ length r
  unfolding blended
  blended_length = tab_length 0 (length r) _

  pub blended_cell : (j : ℕ) → j < length r → cell (blended n s p r) j ≡ top (cell mix j)
  unfolding blended
  blended_cell j h = tab_at (length r) _ 0 j h

  -- The power of two that the row is divided by.
  abbrev pub divisor : ℕ
  divisor = let z = blended n s p r in 2 ^ least_spare (longest (cell z) (length z)) (cell z) (length z)

  pub lowered_length : length (lowered (blended n s p r)) ≡ length r
  unfolding lowered
  lowered_length = over_length divisor (blended n s p r) ∙ blended_length

  pub lowered_cell : (j : ℕ) → j < length r → divisor * cell (lowered (blended n s p r)) j ≡ top (cell mix j)
  unfolding lowered
  lowered_cell j h =
      let z = blended n s p r in
      let k = least_spare (longest (cell z) (length z)) (cell z) (length z) in
      let e : cell z j ≡ top (cell mix j) = blended_cell j h in
      let a = least_below (longest (cell z) (length z)) (cell z) (length z) j (omega (arith, blended_length)) in
      rw (over_cell divisor z j, e) (top_parts (cell mix j) k (λ o. rw e at (a (rw e o))))

  pub lowered_none : (j : ℕ) → j < length r → cell mix j ≡ 0 → cell (lowered (blended n s p r)) j ≡ 0
  unfolding lowered
  lowered_none j h e = over_cell divisor (blended n s p r) j ∙ rw (blended_cell j h, e, top_none) (zero-div divisor)

  pub lowered_trimmed : n ≤ 64 → s < n → cell p (n + 3) ≡ 0 → (j : ℕ) → j < length r
      → Trimmed (2 ^ 48) row_loss (cell (combined s (outside n s p) p r) j) (divisor * cell (lowered (blended n s p r)) j)
  lowered_trimmed small inside free j h =
      let few : 2 ^ 18 + 1 + 2 ^ 18 ≤ row_loss = omega arith in
      rw (lowered_cell j h)
      (trimmed_more (2 ^ 48) (2 ^ 18 + 1 + 2 ^ 18) row_loss few
      (trimmed_next (2 ^ 48) (2 ^ 18 + 1) (2 ^ 18)
      (combined_trimmed (2 ^ 48) (2 ^ 18 + 1) s (outside n s p) (near_outside n s p) p r (outside_trimmed n s p small inside free) j h)
      (top_trimmed (cell mix j))))

  -- One of its weights is below 2 ^ 31, or all are 0.
  pub lowered_low : Low (length r) (lowered (blended n s p r))
  unfolding lowered
  lowered_low =
      let z = blended n s p r in
      let k = least_spare (longest (cell z) (length z)) (cell z) (length z) in
      ⊎_elim
      (λ (o : 0 < sum_to (cell z) (length z)).
      let (i, h, some) = sum_find (cell z) (length z) o in
      let (j, l, w, e) = spare_found (cell z) (length z) i h some in
      let b : j < length r = omega (arith, blended_length) in
      let a = lowered_cell j b in
      inr (
        j,
        b,
        times_some divisor (cell (over divisor z) j) (omega (arith, a, blended_cell j b)),
        rw (over_cell divisor z j) (rw e at (first_small (cell z j))),
      ))
      (λ (o : sum_to (cell z) (length z) ≤ 0).
      inl (λ j h.
      let y : cell z j ≡ 0 = omega (arith, sum_term (cell z) (length z) j (omega (arith, blended_length))) in
      over_cell divisor z j ∙ rw y (zero-div divisor)))
      (below 0 (sum_to (cell z) (length z)))

  -- Its weights have their first 31 digits alone.
  pub lowered_top : (j : ℕ) → j < length r → top (cell (lowered (blended n s p r)) j) ≡ cell (lowered (blended n s p r)) j
  unfolding lowered
  lowered_top j h =
      let z = blended n s p r in
      let e : cell z j ≡ top (cell mix j) = blended_cell j h in
      let t : top (cell z j) ≡ cell z j = rw e (top_twice (cell mix j)) in
      rw (over_cell divisor z j)
      (⊎_elim
      (λ (o : 0 < cell z j).
      top_cut (cell z j) (least_spare (longest (cell z) (length z)) (cell z) (length z)) t
      (least_below (longest (cell z) (length z)) (cell z) (length z) j (omega (arith, blended_length)) o))
      (λ (o : cell z j ≤ 0).
      let y : cell z j / divisor ≡ 0 = let x : cell z j ≡ 0 = omega arith in rw x (zero-div divisor) in
      rw y top_none)
      (below 0 (cell z j)))
