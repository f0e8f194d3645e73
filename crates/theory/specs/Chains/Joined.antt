-- Lists of edges put one after the other: which edges they hold, and what flows along them.
use Prim.Native.Nat.{ℕ, zero, suc, ◌+◌, ◌*◌, ◌<◌}
use Rattle.std.specs.Prelude.{◌≡◌, List, [], ◌++◌, length, get_or, eqb}
use Rattle.std.proofs.Math.Path.{refl, ap, ap₂}
use Rattle.std.proofs.Common.{◌∙◌, get_or-append-add}
use native.Mathlib.Omega.{arith}
use Rattle.std.proofs.Math.ListN.{length-append, get_or-append}
use Rattle.meaning.specs.Number.{sum_to, only}
use Rattle.meaning.specs.Chain.{edge_size, edge, plain_edge, edge_count, from, to, weight, edge_reward, carried, flow}
use Rattle.meaning.specs.Copies.{each}
use Rattle.theory.specs.Numbers.Sum.{last_or_below, sum_ext, sum_join}

-- A list of so many whole edges.
abbrev pub Edges : List ℕ → ℕ → Type 0
Edges edges n = length edges ≡ edge_size * n

-- The numbers of edge e, which has no reward.
pub record IsEdge (edges : List ℕ) (e source target amount : ℕ) : Type 0 where
  pub source_is : from edges e ≡ source
  pub target_is : to edges e ≡ target
  pub amount_is : weight edges e ≡ amount
  pub reward_none : edge_reward edges e ≡ 0

pub is_alone : (source target amount : ℕ) → IsEdge (plain_edge source target amount) 0 source target amount
is_alone source target amount = record { source_is = refl; target_is = refl; amount_is = refl; reward_none = refl }

pub flow_edge : (source target amount reward i : ℕ) (f : ℕ → ℕ) → flow (edge source target amount reward) i f ≡ only (eqb source i) (amount * f target)
unfolding flow carried sum_to
flow_edge source target amount reward i f = omega arith

pub flow_alone : (source target amount i : ℕ) (f : ℕ → ℕ) → flow (plain_edge source target amount) i f ≡ only (eqb source i) (amount * f target)
flow_alone source target amount = flow_edge source target amount 0

pub flow_none : (i : ℕ) (f : ℕ → ℕ) → flow [] i f ≡ 0
unfolding flow sum_to
flow_none i f = refl

module _ (a b : List ℕ) (m : ℕ) (whole : Edges a m) where
  pub edges_joined : (n : ℕ) → Edges b n → Edges (a ++ b) (m + n)
  edges_joined n h = omega (arith, length-append a b)

  pub first_at : (j : ℕ) → j < edge_size * m → get_or (a ++ b) j 0 ≡ get_or a j 0
  first_at j h = get_or-append a b 0 j (omega arith)

  pub second_at : (j k : ℕ) → k ≡ edge_size * m + j → get_or (a ++ b) k 0 ≡ get_or b j 0
  second_at j k e =
      let s : k ≡ length a + j = omega arith in ap (λ k. get_or (a ++ b) k 0) s ∙ get_or-append-add a b j 0

  pub is_first : {e source target amount : ℕ} → e < m → IsEdge a e source target amount → IsEdge (a ++ b) e source target amount
  is_first {e} h x =
      record {
        source_is = first_at (edge_size * e) (omega arith) ∙ x.source_is;
        target_is = first_at (edge_size * e + 1) (omega arith) ∙ x.target_is;
        amount_is = first_at (edge_size * e + 2) (omega arith) ∙ x.amount_is;
        reward_none = first_at (edge_size * e + 3) (omega arith) ∙ x.reward_none;
      }

  pub is_second : {e source target amount : ℕ} → IsEdge b e source target amount → IsEdge (a ++ b) (m + e) source target amount
  is_second {e} x =
      record {
        source_is = second_at (edge_size * e) (edge_size * (m + e)) (omega arith) ∙ x.source_is;
        target_is = second_at (edge_size * e + 1) (edge_size * (m + e) + 1) (omega arith) ∙ x.target_is;
        amount_is = second_at (edge_size * e + 2) (edge_size * (m + e) + 2) (omega arith) ∙ x.amount_is;
        reward_none = second_at (edge_size * e + 3) (edge_size * (m + e) + 3) (omega arith) ∙ x.reward_none;
      }

  -- What flows along both is the sum.
  pub flow_joined : (n : ℕ) → Edges b n → (i : ℕ) (f : ℕ → ℕ) → flow (a ++ b) i f ≡ flow a i f + flow b i f
  unfolding flow carried
  flow_joined n h i f =
      let u : edge_count a ≡ m = omega arith in
      let v : edge_count b ≡ n = omega arith in
      let w : edge_count (a ++ b) ≡ m + n = omega (arith, length-append a b) in
      rw (u, v, w)
      (sum_join (carried (a ++ b) i f) m n
      ∙ ap₂ (λ x y. x + y)
      (sum_ext (carried (a ++ b) i f) (carried a i f) m (λ e l.
      rw (first_at (edge_size * e) (omega arith), first_at (edge_size * e + 1) (omega arith), first_at (edge_size * e + 2) (omega arith))))
      (sum_ext (λ e. carried (a ++ b) i f (m + e)) (carried b i f) n (λ e l.
      rw (
        second_at (edge_size * e) (edge_size * (m + e)) (omega arith),
        second_at (edge_size * e + 1) (edge_size * (m + e) + 1) (omega arith),
        second_at (edge_size * e + 2) (edge_size * (m + e) + 2) (omega arith),
      ))))

-- The edges f 1, f 2, .., f n.
module _ (f : ℕ → List ℕ) (one : (k : ℕ) → Edges (f k) 1) where
  pub each_edges : (n : ℕ) → Edges (each f n) n
  unfolding each
  each_edges zero = refl
  each_edges (suc n) = omega (arith, edges_joined (each f n) (f (suc n)) n (each_edges n) 1 (one (suc n)))

  pub is_each : (n k : ℕ) → k < n → {source target amount : ℕ} → IsEdge (f (suc k)) 0 source target amount
      → IsEdge (each f n) k source target amount
  unfolding each
  is_each zero k h x = absurd (omega arith)
  is_each (suc n) k h {source} {target} {amount} x =
      last_or_below h
      (λ (e : k ≡ n).
      let z : k ≡ n + 0 = omega arith in
      rw z (is_second (each f n) (f (suc n)) n (each_edges n) (rw e at x)))
      (λ (l : k < n). is_first (each f n) (f (suc n)) n (each_edges n) l (is_each n k l x))

  pub flow_each : (n i : ℕ) (g : ℕ → ℕ) → flow (each f n) i g ≡ sum_to (λ k. flow (f (suc k)) i g) n
  unfolding each sum_to
  flow_each zero i g = flow_none i g
  flow_each (suc n) i g =
      flow_joined (each f n) (f (suc n)) n (each_edges n) 1 (one (suc n)) i g
      ∙ ap (λ z. z + flow (f (suc n)) i g) (flow_each n i g)
