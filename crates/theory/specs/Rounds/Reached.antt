-- The true chance within k steps: what its rounds say, and that it is at most the chance.
use Prim.Native.Nat.{ℕ, zero, suc, ◌*◌, ◌/◌, ◌^◌, ◌≤◌, ◌<◌}
use Rattle.std.specs.Prelude.{◌≡◌}
use Rattle.std.proofs.Math.Path.{refl, ap}
use Rattle.std.proofs.Common.{◌∙◌, ⊎_elim, mul-le-mul_left, eq-eqb, ne_eqb}
use native.Mathlib.Omega.{arith}
use Rattle.std.proofs.Math.Nat.{pow-zero, pow-succ'}
use Rattle.meaning.specs.Number.{bit}
use Rattle.meaning.specs.Chain.{Chain, denominator, to, along, Goal, PathTo, ToGoal}
use Rattle.meaning.specs.Figure.{Shares}
use Rattle.meaning.specs.Within.{common, reached_in}
use Rattle.theory.specs.Numbers.Sum.{same}
use Rattle.theory.specs.Chains.Flow.{flow_ext, flow_scale, flow_le}
use Rattle.theory.specs.Chains.Path.{dec_to_goal}
use Rattle.theory.specs.Rounds.Round.{Ready, share_whole}

module _ {c : Chain} (ready : Ready c) where
  abbrev W : ℕ
  W = common c

  abbrev share : ℕ → ℕ
  share i = W / denominator c i

  -- What the true rounds say: denominator times the next round is the product of all times the sum of weight times the round before.
  pub reached_round : (k i : ℕ) → i < c.states → (Goal c i → ⊥) → denominator c i * reached_in c (suc k) i ≡ W * along c i (reached_in c k)
  unfolding reached_in
  reached_round k i h g =
      rw (ne_eqb (bit c.goals i) 1 g)
      (omega (arith, ap (λ z. along c i (reached_in c k) * z) (share_whole ready i h)))

  -- And on goals they say 1.
  pub reached_goal : (k i : ℕ) → Goal c i → reached_in c k i ≡ W ^ k
  unfolding reached_in
  reached_goal zero i g = rw (eq-eqb (bit c.goals i) 1 g, pow-zero W)
  reached_goal (suc k) i g = rw (eq-eqb (bit c.goals i) 1 g)

  -- A state with no path to a goal reaches none.
  lost_zero : (k i : ℕ) → (ToGoal c i → ⊥) → reached_in c k i ≡ 0
  unfolding reached_in
  lost_zero zero i n = rw (ne_eqb (bit c.goals i) 1 (λ g. n (PathTo.here i g)))
  lost_zero (suc k) i n =
      let z : along c i (reached_in c k) ≡ 0 * along c i (λ _. 0) =
      flow_ext c.edges i (reached_in c k) (λ t. 0 * 0)
      (λ e l q. omega (arith, lost_zero k (to c.edges e) (λ p. n (rw q at (PathTo.step e l p)))))
      ∙ flow_scale c.edges i 0 (λ _. 0) in
      rw (ne_eqb (bit c.goals i) 1 (λ g. n (PathTo.here i g))) (omega (arith, ap (λ y. y * share i) z))

  module _ (d : ℕ) (x : ℕ → ℕ) (shares : Shares c d x) where
    up : (T A D P F X y : ℕ) → D * P ≡ F → T ≡ A * P → A * d ≤ X * (D * y) → T * d ≤ y * (F * X)
    up T A D P F X y e q a = omega (arith, ap (λ z. y * z * X) e, ap (λ z. z * d) q, mul-le-mul_left P a)

    -- What is known of the round before, at each state.
    abbrev Below : ℕ → Type 0
    Below k = (i : ℕ) → i < c.states → reached_in c k i * d ≤ x i * W ^ k

    won : (k i : ℕ) → i < c.states → Goal c i → reached_in c k i * d ≤ x i * W ^ k
    won k i h g = rw (reached_goal k i g, shares.won i h g) (omega arith)

    nought : (i : ℕ) → (Goal c i → ⊥) → reached_in c 0 i * d ≤ x i * W ^ 0
    unfolding reached_in
    nought i g = rw (ne_eqb (bit c.goals i) 1 g) (omega arith)

    flows : (k i : ℕ) → i < c.states → (Goal c i → ⊥) → ToGoal c i → Below k → reached_in c (suc k) i * d ≤ x i * W ^ suc k
    unfolding reached_in
    flows k i h g p before =
        rw (ne_eqb (bit c.goals i) 1 g, pow-succ' W k)
        (up _ (along c i (reached_in c k)) (denominator c i) (share i) W (W ^ k) (x i) (share_whole ready i h) refl
        (rw (shares.flows i h g p)
        (omega (
          arith,
          flow_le c.edges i (λ t. d * reached_in c k t) (λ t. W ^ k * x t) (λ e l q. omega (arith, before (to c.edges e) (ready.fine.targets e l))),
          flow_scale c.edges i d (reached_in c k),
          flow_scale c.edges i (W ^ k) x,
        ))))

    -- It is at most the chance.
    pub reached_below : (k : ℕ) → Below k
    reached_below zero i h = ⊎_elim (won 0 i h) (nought i) (same (bit c.goals i) 1)
    reached_below (suc k) i h =
        ⊎_elim
        (won (suc k) i h)
        (λ g.
        elim (dec_to_goal c i) [
          | yes p ↦ flows k i h g p (reached_below k)
          | no n ↦ rw (lost_zero (suc k) i n) (omega arith)
        ])
        (same (bit c.goals i) 1)
