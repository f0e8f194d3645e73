-- Laws of flow, the weighted sum over the edges that leave a state.
use Prim.Native.Nat.{ℕ, ◌+◌, ◌*◌, ◌≤◌, ◌<◌}
use Rattle.std.specs.Prelude.{◌≡◌, Bool, List}
use Rattle.std.proofs.Math.Path.{refl, ap}
use Rattle.std.proofs.Common.{sym, ◌∙◌, mul_comm, eq-eqb, eqb-true}
use Rattle.std.proofs.Math.Bool.{true, false}
use native.Mathlib.Omega.{arith}
use Rattle.std.proofs.Math.Nat.{mul-le-mul_left}
use Rattle.std.proofs.Math.Dec.{eqb}
use Rattle.meaning.specs.Number.{sum_to, only}
use Rattle.meaning.specs.Chain.{edge_count, from, to, weight, carried, flow, row_sum}
use Rattle.theory.specs.Numbers.Sum.{sum_ext, sum_le, sum_add, sum_zero, sum_scale, sum_swap, sum_one, sum_term, sum_tight}

only_add : (b : Bool) (w x y : ℕ) → only b (w * (x + y)) ≡ only b (w * x) + only b (w * y)
only_add true w x y = omega arith
only_add false w x y = refl

only_scale : (b : Bool) (w k x : ℕ) → only b (w * (k * x)) ≡ k * only b (w * x)
only_scale true w k x = omega arith
only_scale false w k x = omega arith

only_one : (b : Bool) (x : ℕ) → x * only b 1 ≡ only b x
only_one true x = omega arith
only_one false x = omega arith

only_le : (b : Bool) (w x y : ℕ) → x ≤ y → only b (w * x) ≤ only b (w * y)
only_le true w x y h = mul-le-mul_left w h
only_le false w x y h = omega arith

module _ (edges : List ℕ) (i : ℕ) where
  -- Only the targets of i's edges count.
  pub flow_ext : (f g : ℕ → ℕ) → ((e : ℕ) → e < edge_count edges → from edges e ≡ i → f (to edges e) ≡ g (to edges e)) → flow edges i f ≡ flow edges i g
  unfolding flow carried
  flow_ext f g h = sum_ext _ _ (edge_count edges) (λ e l. go e l (eqb (from edges e) i) refl)
    where
      go : (e : ℕ) → e < edge_count edges → (b : Bool) → eqb (from edges e) i ≡ b → only b (weight edges e * f (to edges e)) ≡ only b (weight edges e * g (to edges e))
      go e l true q = ap (λ k. weight edges e * k) (h e l (eqb-true (from edges e) i q))
      go e l false q = refl

  pub flow_add : (f g : ℕ → ℕ) → flow edges i (λ t. f t + g t) ≡ flow edges i f + flow edges i g
  unfolding flow carried
  flow_add f g =
      sum_ext _ (λ e. only (eqb (from edges e) i) (weight edges e * f (to edges e)) + only (eqb (from edges e) i) (weight edges e * g (to edges e))) (edge_count edges)
      (λ e l. only_add (eqb (from edges e) i) (weight edges e) (f (to edges e)) (g (to edges e)))
      ∙ sum_add _ _ (edge_count edges)

  pub flow_scale : (k : ℕ) (f : ℕ → ℕ) → flow edges i (λ t. k * f t) ≡ k * flow edges i f
  unfolding flow carried
  flow_scale k f =
      sum_ext _ (λ e. k * only (eqb (from edges e) i) (weight edges e * f (to edges e))) (edge_count edges)
      (λ e l. only_scale (eqb (from edges e) i) (weight edges e) k (f (to edges e)))
      ∙ sum_scale k _ (edge_count edges)

  pub flow_swap : (f : ℕ → ℕ → ℕ) (n : ℕ) → sum_to (λ j. flow edges i (f j)) n ≡ flow edges i (λ t. sum_to (λ j. f j t) n)
  unfolding flow carried
  flow_swap f n =
      sum_swap (λ j e. only (eqb (from edges e) i) (weight edges e * f j (to edges e))) n (edge_count edges)
      ∙ sum_ext _ _ (edge_count edges) (λ e l.
      go (eqb (from edges e) i) (weight edges e) (λ j. f j (to edges e)))
    where
      go : (b : Bool) (w : ℕ) (g : ℕ → ℕ) → sum_to (λ j. only b (w * g j)) n ≡ only b (w * sum_to g n)
      go true w g = sum_scale w g n
      go false w g = sum_zero _ n (λ _ _. refl)

  -- The weights by target, put together again.
  pub flow_split : (n : ℕ) → ((e : ℕ) → e < edge_count edges → to edges e < n) → (x : ℕ → ℕ)
      → sum_to (λ j. flow edges i (λ t. only (eqb t j) 1) * x j) n ≡ flow edges i x
  flow_split n inside x =
      sum_ext _ (λ j. flow edges i (λ t. only (eqb t j) (x j))) n
      (λ j h.
      mul_comm (flow edges i (λ t. only (eqb t j) 1)) (x j)
      ∙ sym (flow_scale (x j) (λ t. only (eqb t j) 1))
      ∙ flow_ext _ _ (λ e l q. only_one (eqb (to edges e) j) (x j)))
      ∙ flow_swap (λ j t. only (eqb t j) (x j)) n
      ∙ flow_ext _ _ (λ e l q. sum_one x n (to edges e) (inside e l))

  pub flow_term : (f : ℕ → ℕ) (e : ℕ) → e < edge_count edges → from edges e ≡ i → weight edges e * f (to edges e) ≤ flow edges i f
  unfolding flow carried
  flow_term f e l q =
      rw (eq-eqb (from edges e) i q) at (sum_term (λ e. only (eqb (from edges e) i) (weight edges e * f (to edges e))) (edge_count edges) e l)

  -- Where each target is worth at most m and all together m each, each is worth m.
  pub flow_tight : (f : ℕ → ℕ) (m : ℕ) → ((e : ℕ) → e < edge_count edges → f (to edges e) ≤ m) → flow edges i (λ _. m) ≤ flow edges i f
      → (e : ℕ) → e < edge_count edges → from edges e ≡ i → weight edges e * f (to edges e) ≡ weight edges e * m
  unfolding flow carried
  flow_tight f m h l e k q =
      rw (eq-eqb (from edges e) i q) at
      (sum_tight
      (λ e. only (eqb (from edges e) i) (weight edges e * f (to edges e)))
      (λ e. only (eqb (from edges e) i) (weight edges e * m))
      (edge_count edges)
      (λ e k. only_le (eqb (from edges e) i) (weight edges e) (f (to edges e)) m (h e k))
      l
      e
      k)

  -- Where each target is worth no more.
  pub flow_le : (f g : ℕ → ℕ) → ((e : ℕ) → e < edge_count edges → from edges e ≡ i → f (to edges e) ≤ g (to edges e)) → flow edges i f ≤ flow edges i g
  unfolding flow carried
  flow_le f g h = sum_le _ _ (edge_count edges) (λ e l. go e l (eqb (from edges e) i) refl)
    where
      go : (e : ℕ) → e < edge_count edges → (b : Bool) → eqb (from edges e) i ≡ b → only b (weight edges e * f (to edges e)) ≤ only b (weight edges e * g (to edges e))
      go e l true q = mul-le-mul_left (weight edges e) (h e l (eqb-true (from edges e) i q))
      go e l false q = omega arith

  -- Where each target is worth at most m, all together are worth at most m times the row sum.
  pub flow_most : (f : ℕ → ℕ) (m : ℕ) → ((e : ℕ) → e < edge_count edges → from edges e ≡ i → f (to edges e) ≤ m) → flow edges i f ≤ m * row_sum edges i
  flow_most f m h = omega (arith, flow_le f (λ _. m * 1) (λ e l q. omega (arith, h e l q)), flow_scale m (λ _. 1))
