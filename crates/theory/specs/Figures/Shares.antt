-- Every chain has a chance at each of its states, and one only.
use Rattle.std.specs.Prelude.{ℕ, ◌*◌, ◌<◌, ◌≡◌}
use Rattle.std.proofs.Math.Logic.Dec
use Rattle.std.proofs.Common.{arith}
use Rattle.meaning.specs.Number.{bit}
use Rattle.meaning.specs.Chain.{Chain, Goal, PathTo, ToGoal}
use Rattle.meaning.specs.Figure.{Shares}
use Rattle.theory.specs.Chains.Fine.{Fine}
use Rattle.theory.specs.Chains.Path.{dec_goal, dec_to_goal}
use Rattle.theory.specs.Figures.Solvable.{Fills, fills_exist, fills_agree}

module _ (c : Chain) where
  -- The states that flow: no goal, with a path to one.
  abbrev Flows : ℕ → Type 0
  Flows i = (Goal c i → ⊥) × ToGoal c i

  dec_flows : (i : ℕ) → Dec (Flows i)
  dec_flows i = Dec.and (Dec.not (dec_goal c i)) (dec_to_goal c i)

  no_goal : (i : ℕ) → (Goal c i → ⊥) → bit c.goals i ≡ 0
  no_goal i n = omega arith

  fills : {d : ℕ} {x : ℕ → ℕ} → Shares c d x → Fills c Flows (bit c.goals) d x
  fills {d} {x} S =
      record {
        whole = S.whole;
        given = λ i h n. go i h n (dec_goal c i);
        flows = λ i h f. rw (no_goal i f.0) (omega (arith, S.flows i h f.0 f.1));
      }
    where
      go : (i : ℕ) → i < c.states → (Flows i → ⊥) → Dec (Goal c i) → x i ≡ bit c.goals i * d
      go i h n (yes g) = rw g (omega (arith, S.won i h g))
      go i h n (no m) = rw (no_goal i m) (omega (arith, S.lost i h (λ t. n (m, t))))

  shares : {d : ℕ} {x : ℕ → ℕ} → Fills c Flows (bit c.goals) d x → Shares c d x
  shares F =
      record {
        whole = F.whole;
        won = λ i h g. let e = F.given i h (λ f. f.0 g) in omega (arith, rw g at e);
        lost = λ i h n.
            let e = F.given i h (λ f. n f.1) in
            omega (arith, rw (no_goal i (λ g. n (PathTo.here i g))) at e);
        flows = λ i h n t. let e = F.flows i h (n, t) in omega (arith, rw (no_goal i n) at e);
      }

module _ {c : Chain} (fine : Fine c) where
  pub shares_exist : (d : ℕ) × (x : ℕ → ℕ) × Shares c d x
  shares_exist =
      let (d, x, F) = fills_exist c fine (Flows c) (dec_flows c) (bit c.goals) (λ i f. f.0) (λ i f. f.1) in
      (d, x, shares c F)

  pub shares_agree : {d d' : ℕ} {x x' : ℕ → ℕ} → Shares c d x → Shares c d' x' → (i : ℕ) → i < c.states → x i * d' ≡ x' i * d
  shares_agree S S' = fills_agree c fine (Flows c) (dec_flows c) (bit c.goals) (λ i f. f.0) (λ i f. f.1) (fills c S) (fills c S')
