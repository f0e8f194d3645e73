-- What flows along a plan's chain, and its row sums, which are its denominators.
use Prim.Native.Nat.{ℕ, suc, ◌+◌, ◌*◌, ◌-◌, ◌≤◌, ◌<◌}
use Rattle.std.specs.Prelude.{◌≡◌, ◌⊎◌, List, eqb}
use Rattle.std.proofs.Math.Path.{refl, ap, ap₂}
use Rattle.std.proofs.Common.{◌∙◌, inl, inr, eq-eqb, ne_eqb}
use native.Mathlib.Omega.{arith}
use Rattle.meaning.specs.Number.{sum_to, only}
use Rattle.meaning.specs.Chain.{plain_edge, flow, row_sum}
use Rattle.meaning.specs.Copies.{Plan, finished, each, losses, rebuilds, finishes, copies_edges}
use Rattle.theory.specs.Numbers.Sum.{sum_ext, sum_zero, sum_alone}
use Rattle.theory.specs.Chains.Joined.{flow_alone, flow_joined, flow_each}
use Rattle.theory.specs.Plans.Kinds.{rebuilds_whole, losses_whole, finishes_whole, two, two_whole, three, three_whole, four, four_whole}

-- One edge from each of the states 1 to n: there its weight times what f says of its target flows, and elsewhere nothing.
module _ (t w : ℕ → ℕ) (n : ℕ) (f : ℕ → ℕ) where
  abbrev rungs : List ℕ
  rungs = each (λ k. plain_edge k (t k) (w k)) n

  term : ℕ → ℕ → ℕ
  term i k = only (eqb (suc k) i) (w (suc k) * f (t (suc k)))

  rung_terms : (i : ℕ) → flow rungs i f ≡ sum_to (term i) n
  unfolding term
  rung_terms i =
      flow_each (λ k. plain_edge k (t k) (w k)) (λ k. refl) n i f
      ∙ sum_ext _ _ n (λ k h. flow_alone (suc k) (t (suc k)) (w (suc k)) i f)

  rung_some : (i : ℕ) → 0 < i → i ≤ n → flow rungs i f ≡ w i * f (t i)
  unfolding term
  rung_some i s h =
      let e : suc (i - 1) ≡ i = omega arith in
      rung_terms i
      ∙ sum_alone (term i) n (i - 1) (omega arith) (λ k l d. rw (ne_eqb (suc k) i (omega arith)))
      ∙ rw (eq-eqb (suc (i - 1)) i e, e)

  rung_none : (i : ℕ) → (i ≡ 0) ⊎ (n < i) → flow rungs i f ≡ 0
  unfolding term
  rung_none i (inl z) = rung_terms i ∙ sum_zero (term i) n (λ k h. rw (ne_eqb (suc k) i (omega arith)))
  rung_none i (inr z) = rung_terms i ∙ sum_zero (term i) n (λ k h. rw (ne_eqb (suc k) i (omega arith)))

module _ (j : Plan) (f : ℕ → ℕ) where
  -- What flows is what flows along each kind, added up.
  flow_kinds : (i : ℕ) → flow (copies_edges j) i f
      ≡ flow (losses j) i f + flow (rebuilds j) i f + flow (finishes j) i f + only (eqb 0 i) (1 * f 0) + only (eqb (finished j) i) (1 * f (finished j))
  unfolding copies_edges
  flow_kinds i =
      flow_joined (four j) (plain_edge (finished j) (finished j) 1) _ (four_whole j) 1 refl i f
      ∙ ap₂ (λ x y. x + y)
      (flow_joined (three j) (plain_edge 0 0 1) _ (three_whole j) 1 refl i f
      ∙ ap₂ (λ x y. x + y)
      (flow_joined (two j) (finishes j) _ (two_whole j) _ (finishes_whole j) i f
      ∙ ap (λ x. x + flow (finishes j) i f) (flow_joined (losses j) (rebuilds j) _ (losses_whole j) _ (rebuilds_whole j) i f))
      (flow_alone 0 0 1 i f))
      (flow_alone (finished j) (finished j) 1 i f)

  -- A state with copies left, some of them lost; and with all of them.
  pub flow_between : (k : ℕ) → 0 < k → k < j.copies
      → flow (copies_edges j) k f ≡ k * j.loss * f (k - 1) + j.rebuild * f (k + 1) + j.finish * f (finished j)
  flow_between k s h =
      let a = rung_some (λ k. k - 1) (λ k. k * j.loss) j.copies f k s (omega arith) in
      let b = rung_some (λ k. k + 1) (λ _. j.rebuild) (j.copies - 1) f k s (omega arith) in
      let d = rung_some (λ _. finished j) (λ _. j.finish) j.copies f k s (omega arith) in
      flow_kinds k ∙ rw (a, b, d, ne_eqb 0 k (omega arith), ne_eqb (finished j) k (omega arith)) (omega arith)

  pub flow_full : (k : ℕ) → 0 < k → k ≡ j.copies → flow (copies_edges j) k f ≡ k * j.loss * f (k - 1) + j.finish * f (finished j)
  flow_full k s h =
      let a = rung_some (λ k. k - 1) (λ k. k * j.loss) j.copies f k s (omega arith) in
      let b = rung_none (λ k. k + 1) (λ _. j.rebuild) (j.copies - 1) f k (inr (omega arith)) in
      let d = rung_some (λ _. finished j) (λ _. j.finish) j.copies f k s (omega arith) in
      flow_kinds k ∙ rw (a, b, d, ne_eqb 0 k (omega arith), ne_eqb (finished j) k (omega arith)) (omega arith)

module _ (j : Plan) where
  -- The row sums there, with none left, and of the finished job.
  pub row_between : (k : ℕ) → 0 < k → k < j.copies → row_sum (copies_edges j) k ≡ k * j.loss + j.rebuild + j.finish
  row_between k s h = flow_between j (λ _. 1) k s h ∙ omega arith

  pub row_full : 0 < j.copies → row_sum (copies_edges j) j.copies ≡ j.copies * j.loss + j.finish
  row_full s = flow_full j (λ _. 1) j.copies s refl ∙ omega arith

  pub row_empty : row_sum (copies_edges j) 0 ≡ 1
  row_empty =
      let a = rung_none (λ k. k - 1) (λ k. k * j.loss) j.copies (λ _. 1) 0 (inl refl) in
      let b = rung_none (λ k. k + 1) (λ _. j.rebuild) (j.copies - 1) (λ _. 1) 0 (inl refl) in
      let d = rung_none (λ _. finished j) (λ _. j.finish) j.copies (λ _. 1) 0 (inl refl) in
      flow_kinds j (λ _. 1) 0 ∙ rw (a, b, d, ne_eqb (finished j) 0 (omega arith))

  pub row_done : row_sum (copies_edges j) (finished j) ≡ 1
  row_done =
      let k : ℕ = finished j in
      let a = rung_none (λ k. k - 1) (λ k. k * j.loss) j.copies (λ _. 1) k (inr (omega arith)) in
      let b = rung_none (λ k. k + 1) (λ _. j.rebuild) (j.copies - 1) (λ _. 1) k (inr (omega arith)) in
      let d = rung_none (λ _. finished j) (λ _. j.finish) j.copies (λ _. 1) k (inr (omega arith)) in
      flow_kinds j (λ _. 1) k ∙ rw (a, b, d, ne_eqb 0 k (omega arith), eq-eqb k k refl)
