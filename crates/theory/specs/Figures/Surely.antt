-- The chance is 1 exactly where no goal can be missed.
use Rattle.std.specs.Prelude.{ℕ, ◌+◌, ◌-◌, ◌*◌, ◌≤◌, ◌<◌, ◌≡◌, refl, ◌↔◌}
use Rattle.std.proofs.Math.Path.{ap}
use Rattle.std.proofs.Common.{◌∙◌}
use Rattle.std.proofs.Math.Logic.{⊎_elim}
use native.Mathlib.Omega.{arith}
use Rattle.std.proofs.Math.Nat.{eq_of_mul-eq-mul_left}
use Rattle.meaning.specs.Chain.{Chain, denominator, from, to, weight, along, Goal, ToGoal, FromStart}
use Rattle.meaning.specs.Figure.{Shares, Chance, Missed, Earns}
use Rattle.theory.specs.Numbers.Sum.{same}
use Rattle.theory.specs.Chains.Flow.{flow_ext, flow_add, flow_scale, flow_tight}
use Rattle.theory.specs.Chains.Fine.{Fine, reached_state}
use Rattle.theory.specs.Figures.Below.{share_below}
use Rattle.theory.specs.Figures.Shares.{shares_exist}
use Rattle.theory.specs.Figures.Earnings.{earns_agree}

module _ (c : Chain) (fine : Fine c) (inside : c.start < c.states) where
  -- The sum over the edges that leave a state, of d at each target.
  along_whole : (d i : ℕ) → i < c.states → along c i (λ _. d) ≡ d * denominator c i
  along_whole d i h =
      flow_ext c.edges i (λ _. d) (λ _. d * 1) (λ _ _ _. omega arith)
      ∙ flow_scale c.edges i d (λ _. 1)
      ∙ ap (λ z. d * z) (fine.sums i h)

  module _ (d : ℕ) (x : ℕ → ℕ) (share : Shares c d x) where
    most : (i : ℕ) → i < c.states → x i ≤ d
    most = share_below c fine d x share

    -- Where the chance is 1 at the start, it is 1 at each state that is reached from there.
    reached_sure : x c.start ≡ d → (i : ℕ) → FromStart c i → x i ≡ d
    reached_sure sure i FromStart.begin = sure
    reached_sure sure i (FromStart.step e k f n) =
        let s = from c.edges e in
        let t = to c.edges e in
        let h : s < c.states = reached_state fine inside f in
        let q : x s ≡ d = reached_sure sure s f in
        ⊎_elim
        (λ (g : x t ≡ d). g)
        (λ (g : x t ≡ d → ⊥).
        let none : ToGoal c s → ⊥ =
        λ path.
        let flows : denominator c s * d ≡ along c s x = rw q at (share.flows s h n path) in
        let tight = flow_tight c.edges s x d (λ e k. most (to c.edges e) (fine.targets e k)) (omega (arith, along_whole d s h, flows)) e k refl in
        g (eq_of_mul-eq-mul_left (weight c.edges e) (fine.weights e k) _ _ tight) in
        absurd (omega (arith, q, share.lost s h none, share.whole)))
        (same (x t) d)

    sure_reaches : x c.start ≡ d → Missed c → ⊥
    sure_reaches sure m =
        omega (arith, reached_sure sure m.0 m.1, share.lost m.0 (reached_state fine inside m.1) m.2, share.whole)

    -- Where no goal can be missed, the chances of missing and 0 everywhere solve one system, so that both are 0.
    module _ (sure : Missed c → ⊥) where
      wanting : ℕ → ℕ
      wanting i = d - x i

      wanting_flows : (i : ℕ) → i < c.states → (Goal c i → ⊥) → ToGoal c i → denominator c i * wanting i ≡ 0 * d + along c i wanting
      unfolding wanting
      wanting_flows i h n path =
          let both : along c i (λ t. x t + wanting t) ≡ along c i (λ _. d) =
          flow_ext c.edges i (λ t. x t + wanting t) (λ _. d) (λ e k _. omega (arith, most (to c.edges e) (fine.targets e k))) in
          let parts : x i + wanting i ≡ d = omega (arith, most i h) in
          omega (
            arith,
            flow_add c.edges i x wanting,
            both,
            along_whole d i h,
            share.flows i h n path,
            ap (λ z. denominator c i * z) parts,
          )

      wanting_earns : Earns c (λ _. 0) d wanting
      unfolding wanting
      wanting_earns =
          record {
            whole = share.whole;
            won = λ i f g. omega (arith, share.won i (reached_state fine inside f) g);
            flows = λ i f n.
                ⊎_elim
                (λ (e : denominator c i * wanting i ≡ 0 * d + along c i wanting). e)
                (λ (e : denominator c i * wanting i ≡ 0 * d + along c i wanting → ⊥).
                absurd (sure (i, f, λ path. e (wanting_flows i (reached_state fine inside f) n path))))
                (same (denominator c i * wanting i) (0 * d + along c i wanting));
          }

      nothing_earns : Earns c (λ _. 0) d (λ _. 0)
      nothing_earns =
          record {
            whole = share.whole;
            won = λ i f g. refl;
            flows = λ i f n. omega (arith, flow_scale c.edges i 0 (λ _. 0));
          }

      reaches_sure : x c.start ≡ d
      unfolding wanting
      reaches_sure =
          let e : wanting c.start * d ≡ 0 * d =
          earns_agree fine inside sure (λ _. 0) wanting_earns nothing_earns c.start FromStart.begin in
          let z : wanting c.start ≡ 0 = eq_of_mul-eq-mul_left d share.whole _ _ (omega (arith, e)) in
          omega (arith, z, most c.start inside)

  pub chance_sure : (p q : ℕ) → Chance c p q → (p ≡ q) ↔ (Missed c → ⊥)
  chance_sure p q C =
      let (d, x, share) = shares_exist fine in
      let e = C.share d x share in (
        λ one. sure_reaches d x share (eq_of_mul-eq-mul_left q C.lowest.whole _ _ (omega (arith, e, ap (λ z. z * d) one))),
        λ sure. eq_of_mul-eq-mul_left d share.whole _ _ (omega (arith, e, ap (λ z. z * q) (reaches_sure d x share sure))),
      )
