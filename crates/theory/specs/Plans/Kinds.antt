-- The edges of a plan by their kinds: losses, rebuilds, finishes, and two loops.
use Prim.Native.Nat.{ℕ, suc, ◌+◌, ◌*◌, ◌-◌, ◌<◌}
use Rattle.std.specs.Prelude.{◌≡◌, List, ◌++◌}
use Rattle.std.proofs.Math.Path.{refl}
use Rattle.std.proofs.Common.{⊎_elim, arith}
use Rattle.meaning.specs.Chain.{plain_edge, edge_count}
use Rattle.meaning.specs.Copies.{Plan, finished, losses, rebuilds, finishes, copies_edges}
use Rattle.theory.specs.Numbers.Sum.{below}
use Rattle.theory.specs.Chains.Joined.{Edges, edges_joined, each_edges, IsEdge, is_alone, is_first, is_second, is_each}

-- How many edges there are of the first kinds, and of all.
abbrev pub before_finishes : Plan → ℕ
before_finishes j = j.copies + (j.copies - 1)

abbrev pub before_loops : Plan → ℕ
before_loops j = before_finishes j + j.copies

abbrev pub copies_count : Plan → ℕ
copies_count j = before_loops j + 1 + 1

-- Edge e is of one of the kinds, and these are its numbers.
pub data Kind (j : Plan) (e : ℕ) : Type 0 where
  loses : (k : ℕ) → k < j.copies → e ≡ k → IsEdge (copies_edges j) e (suc k) (suc k - 1) (suc k * j.loss) → Kind j e
  rebuilt : (k : ℕ) → k < j.copies - 1 → e ≡ j.copies + k → IsEdge (copies_edges j) e (suc k) (suc k + 1) j.rebuild → Kind j e
  ends : (k : ℕ) → k < j.copies → e ≡ before_finishes j + k → IsEdge (copies_edges j) e (suc k) (finished j) j.finish → Kind j e
  empty : e ≡ before_loops j → IsEdge (copies_edges j) e 0 0 1 → Kind j e
  done : e ≡ before_loops j + 1 → IsEdge (copies_edges j) e (finished j) (finished j) 1 → Kind j e

module _ (j : Plan) where
  -- The list as it grows, kind by kind.
  abbrev pub two : List ℕ
  two = losses j ++ rebuilds j

  abbrev pub three : List ℕ
  three = two ++ finishes j

  abbrev pub four : List ℕ
  four = three ++ plain_edge 0 0 1

  pub losses_whole : Edges (losses j) j.copies
  losses_whole = each_edges _ (λ k. refl) j.copies

  pub rebuilds_whole : Edges (rebuilds j) (j.copies - 1)
  rebuilds_whole = each_edges _ (λ k. refl) (j.copies - 1)

  pub finishes_whole : Edges (finishes j) j.copies
  finishes_whole = each_edges _ (λ k. refl) j.copies

  pub two_whole : Edges two (before_finishes j)
  two_whole = edges_joined (losses j) (rebuilds j) _ losses_whole _ rebuilds_whole

  pub three_whole : Edges three (before_loops j)
  three_whole = edges_joined two (finishes j) _ two_whole _ finishes_whole

  pub four_whole : Edges four (before_loops j + 1)
  four_whole = edges_joined three (plain_edge 0 0 1) _ three_whole 1 refl

  pub copies_whole : Edges (copies_edges j) (copies_count j)
  unfolding copies_edges
  copies_whole = edges_joined four (plain_edge (finished j) (finished j) 1) _ four_whole 1 refl

  pub copies_count_lem : edge_count (copies_edges j) ≡ copies_count j
  copies_count_lem = omega (arith, copies_whole)

  -- What an edge is in the list as it grows, it is in the whole.
  from_four : {e s t w : ℕ} → e < before_loops j + 1 → IsEdge four e s t w → IsEdge (copies_edges j) e s t w
  unfolding copies_edges
  from_four h x = is_first four (plain_edge (finished j) (finished j) 1) _ four_whole h x

  from_three : {e s t w : ℕ} → e < before_loops j → IsEdge three e s t w → IsEdge (copies_edges j) e s t w
  from_three h x = from_four (omega arith) (is_first three (plain_edge 0 0 1) _ three_whole h x)

  from_two : {e s t w : ℕ} → e < before_finishes j → IsEdge two e s t w → IsEdge (copies_edges j) e s t w
  from_two h x = from_three (omega arith) (is_first two (finishes j) _ two_whole h x)

  -- The edges of each kind.
  pub losing : (k : ℕ) → k < j.copies → IsEdge (copies_edges j) k (suc k) (suc k - 1) (suc k * j.loss)
  losing k h =
      from_two (omega arith)
      (is_first (losses j) (rebuilds j) _ losses_whole h (is_each _ (λ k. refl) _ k h (is_alone (suc k) (suc k - 1) (suc k * j.loss))))

  rebuilding : (e k : ℕ) → k < j.copies - 1 → e ≡ j.copies + k → Kind j e
  rebuilding e k h q =
      let x = is_second (losses j) (rebuilds j) _ losses_whole (is_each _ (λ k. refl) _ k h (is_alone (suc k) (suc k + 1) j.rebuild)) in
      rebuilt k h q (rw q (from_two (omega arith) x))

  ending : (e k : ℕ) → k < j.copies → e ≡ before_finishes j + k → Kind j e
  ending e k h q =
      let x = is_second two (finishes j) _ two_whole (is_each _ (λ k. refl) _ k h (is_alone (suc k) (finished j) j.finish)) in
      ends k h q (rw q (from_three (omega arith) x))

  emptied : (e : ℕ) → e ≡ before_loops j + 0 → Kind j e
  emptied e q = empty (omega arith) (rw q (from_four (omega arith) (is_second three (plain_edge 0 0 1) _ three_whole (is_alone 0 0 1))))

  finishing : (e : ℕ) → e ≡ before_loops j + 1 + 0 → Kind j e
  unfolding copies_edges
  finishing e q =
      let f : ℕ = finished j in done (omega arith) (rw q (is_second four (plain_edge f f 1) _ four_whole (is_alone f f 1)))

  -- Every edge is of one of the kinds.
  pub kind : (e : ℕ) → e < edge_count (copies_edges j) → Kind j e
  kind e h =
      ⊎_elim
      (λ (a : e < j.copies). loses e a refl (losing e a))
      (λ a.
      ⊎_elim
      (λ (b : e < before_finishes j). rebuilding e (e - j.copies) (omega arith) (omega arith))
      (λ b.
      ⊎_elim
      (λ (d : e < before_loops j). ending e (e - before_finishes j) (omega arith) (omega arith))
      (λ d.
      ⊎_elim
      (λ (f : e < before_loops j + 1). emptied e (omega arith))
      (λ f. finishing e (omega (arith, copies_count_lem)))
      (below e (before_loops j + 1)))
      (below e (before_loops j)))
      (below e (before_finishes j)))
      (below e j.copies)
