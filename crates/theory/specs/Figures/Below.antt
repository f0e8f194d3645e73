-- No chance is above 1, and that of a state with a path to a goal is not 0.
use Rattle.std.specs.Prelude.{ℕ, zero, suc, ◌*◌, ◌≤◌, ◌<◌, ◌≡◌, refl, ◌⊎◌}
use Rattle.std.proofs.Common.{ap, ◌∙◌, inl, inr, ⊎_elim, arith, mul-pos}
use Rattle.std.proofs.Math.Nat.{eq_of_mul-eq-mul_left}
use Rattle.meaning.specs.Number.{bit}
use Rattle.meaning.specs.Chain.{Chain, denominator, from, to, weight, along, ToGoal, PathTo}
use Rattle.meaning.specs.Figure.{Shares}
use Rattle.theory.specs.Numbers.Sum.{same, below}
use Rattle.theory.specs.Chains.Flow.{flow_ext, flow_scale, flow_tight, flow_term}
use Rattle.theory.specs.Chains.Fine.{Fine}

-- The greatest of x 0, .., x (n - 1).
greatest : (x : ℕ → ℕ) (n : ℕ) → (m : ℕ) × ((i : ℕ) → i < n → x i ≤ m) × ((m ≡ 0) ⊎ ((i : ℕ) × (i < n) × (x i ≡ m)))
greatest x zero = (0, λ i h. omega arith, inl refl)
greatest x (suc n) =
    let g = greatest x n in
    ⊎_elim
    (λ (l : g.0 < x n). (
      x n,
      λ i h.
          ⊎_elim
          (λ (e : i ≡ n). rw e (omega arith))
          (λ (d : i ≡ n → ⊥). omega (arith, g.1 i (omega arith)))
          (same i n),
      inr (n, omega arith, refl),
    ))
    (λ (l : x n ≤ g.0). (
      g.0,
      λ i h.
          ⊎_elim
          (λ (e : i ≡ n). rw e l)
          (λ (d : i ≡ n → ⊥). g.1 i (omega arith))
          (same i n),
      ⊎_elim
          (λ e. inl e)
          (λ w. inr (w.0, omega (arith, w.1), w.2))
          g.2,
    ))
    (below g.0 (x n))

module _ (c : Chain) (fine : Fine c) (d : ℕ) (x : ℕ → ℕ) (share : Shares c d x) where
  -- A state with a path to a goal is not worth more than d and as much as any.
  high : (m : ℕ) → ((i : ℕ) → i < c.states → x i ≤ m) → d < m → (i : ℕ) → ToGoal c i → i < c.states → x i ≡ m → ⊥
  high m all l i (PathTo.here j g) h e = omega (arith, share.won j h g)
  high m all l i (PathTo.step e k w) h q =
      ⊎_elim
      (λ (g : bit c.goals (from c.edges e) ≡ 1). omega (arith, share.won (from c.edges e) h g))
      (λ (g : bit c.goals (from c.edges e) ≡ 1 → ⊥).
      let s = from c.edges e in
      let a : along c s (λ _. m) ≡ m * denominator c s =
      flow_ext c.edges s (λ _. m) (λ _. m * 1) (λ _ _ _. omega arith) ∙ flow_scale c.edges s m (λ _. 1) ∙ ap (λ z. m * z) (fine.sums s h) in
      let f : denominator c s * m ≡ along c s x = rw q at (share.flows s h g (PathTo.step e k w)) in
      let t = flow_tight c.edges s x m (λ e k. all (to c.edges e) (fine.targets e k)) (omega arith) e k refl in
      high m all l (to c.edges e) w (fine.targets e k) (eq_of_mul-eq-mul_left (weight c.edges e) (fine.weights e k) _ _ t))
      (same (bit c.goals (from c.edges e)) 1)

  pub share_below : (i : ℕ) → i < c.states → x i ≤ d
  share_below i h =
      let g = greatest x c.states in
      ⊎_elim
      (λ (l : d < g.0).
      absurd
      (⊎_elim
      (λ (e : g.0 ≡ 0). omega arith)
      (λ w. omega (arith, w.2, share.lost w.0 w.1 (λ t. high g.0 g.1 l w.0 t w.1 w.2)))
      g.2))
      (λ (l : g.0 ≤ d). omega (arith, g.1 i h))
      (below d g.0)

  -- A state with a path to a goal is worth something.
  pub share_above : {i : ℕ} → ToGoal c i → i < c.states → 0 < x i
  share_above (PathTo.here i g) h = omega (arith, share.won i h g, share.whole)
  share_above (PathTo.step e k w) h =
      let s = from c.edges e in
      ⊎_elim
      (λ (g : bit c.goals s ≡ 1). omega (arith, share.won s h g, share.whole))
      (λ (g : bit c.goals s ≡ 1 → ⊥).
      let a = mul-pos (fine.weights e k) (share_above w (fine.targets e k)) in
      let b : 0 < denominator c s * x s = omega (arith, a, flow_term c.edges s x e k refl, share.flows s h g (PathTo.step e k w)) in
      ⊎_elim
      (λ (l : 0 < x s). l)
      (λ (l : x s ≤ 0). let z : x s ≡ 0 = omega arith in absurd (omega (arith, rw z at b)))
      (below 0 (x s)))
      (same (bit c.goals s) 1)
