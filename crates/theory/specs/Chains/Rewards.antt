-- What edges pay: bounds of their sum; and two lists of edges that differ in rewards alone, which have the same weights, paths and sets.
use Rattle.std.specs.Prelude.{ℕ, ◌*◌, ◌/◌, ◌≤◌, ◌<◌, ◌≡◌, Bool, List, length}
use Rattle.std.proofs.Math.Path.{refl, ap, subst}
use Rattle.std.proofs.Common.{sym, ◌∙◌, eqb-true}
use Rattle.std.proofs.Math.Bool.{true, false}
use native.Mathlib.Omega.{arith}
use Rattle.std.proofs.Math.Nat.{mul-le-mul_left}
use Rattle.std.proofs.Math.Dec.{eqb}
use Rattle.meaning.specs.Number.{sum_to, only}
use Rattle.meaning.specs.Chain.{Chain, edge_size, edge_count, from, to, weight, edge_reward, carried, flow, row_sum, edge_rewards, Goal, PathTo, FromStart, Live}
use Rattle.meaning.specs.Step.{Sets, Right}
use Rattle.theory.specs.Numbers.Sum.{sum_ext, sum_le, sum_zero, sum_scale}

module _ (edges : List ℕ) (i : ℕ) where
  -- Edges without rewards pay nothing.
  pub edge_rewards_none : ((e : ℕ) → e < edge_count edges → edge_reward edges e ≡ 0) → edge_rewards edges i ≡ 0
  unfolding edge_rewards
  edge_rewards_none h = sum_zero _ (edge_count edges) (λ e l. rw (h e l) (go (eqb (from edges e) i) (weight edges e)))
    where
      go : (b : Bool) (w : ℕ) → only b (w * 0) ≡ 0
      go true w = omega arith
      go false w = refl

  -- Where each reward is at most m, they pay at most m times the row sum.
  pub edge_rewards_most : (m : ℕ) → ((e : ℕ) → e < edge_count edges → edge_reward edges e ≤ m) → edge_rewards edges i ≤ m * row_sum edges i
  unfolding edge_rewards flow carried
  edge_rewards_most m h =
      subst (λ z. edge_rewards edges i ≤ z) (sum_scale m (carried edges i (λ _. 1)) (edge_count edges))
      (sum_le _ _ (edge_count edges) (λ e l. go (eqb (from edges e) i) (weight edges e) (edge_reward edges e) (h e l)))
    where
      go : (b : Bool) (w r : ℕ) → r ≤ m → only b (w * r) ≤ m * only b (w * 1)
      go true w r k = omega (arith, mul-le-mul_left w k)
      go false w r k = omega arith

-- Two lists of edges that differ in rewards alone.
pub record RewardsAlone (edges edges' : List ℕ) : Type 0 where
  pub lengths : length edges ≡ length edges'
  pub froms : (e : ℕ) → from edges e ≡ from edges' e
  pub tos : (e : ℕ) → to edges e ≡ to edges' e
  pub weights : (e : ℕ) → weight edges e ≡ weight edges' e

pub swapped : {edges edges' : List ℕ} → RewardsAlone edges edges' → RewardsAlone edges' edges
swapped s =
    record { lengths = sym s.lengths; froms = λ e. sym (s.froms e); tos = λ e. sym (s.tos e); weights = λ e. sym (s.weights e) }

-- A chain with other edges.
abbrev pub repaid : List ℕ → Chain → Chain
repaid edges c =
    record { states = c.states; start = c.start; goals = c.goals; denominators = c.denominators; edges = edges }

module _ {edges edges' : List ℕ} (s : RewardsAlone edges edges') where
  pub same_count : edge_count edges ≡ edge_count edges'
  same_count = ap (λ n. n / edge_size) s.lengths

  pub same_flow : (i : ℕ) (f : ℕ → ℕ) → flow edges i f ≡ flow edges' i f
  unfolding flow carried
  same_flow i f =
      ap (sum_to (carried edges i f)) same_count
      ∙ sum_ext _ _ (edge_count edges') (λ e h. rw (s.froms e, s.tos e, s.weights e))

  pub same_path : {End : ℕ → Type 0} {i : ℕ} → PathTo edges End i → PathTo edges' End i
  same_path (PathTo.here i h) = PathTo.here i h
  same_path {End} (PathTo.step e l p) =
      subst (PathTo edges' End) (sym (s.froms e)) (PathTo.step e (omega (arith, l, same_count)) (subst (PathTo edges' End) (s.tos e) (same_path p)))

  -- Edges that leave i pay the same where their rewards do not differ.
  pub same_pay : (i : ℕ) → ((e : ℕ) → e < edge_count edges → from edges e ≡ i → edge_reward edges e ≡ edge_reward edges' e) → edge_rewards edges i ≡ edge_rewards edges' i
  unfolding edge_rewards
  same_pay i h =
      ap (sum_to (λ e. only (eqb (from edges e) i) (weight edges e * edge_reward edges e))) same_count
      ∙ sum_ext _ _ (edge_count edges') (λ e l. rw (← s.froms e, ← s.weights e) (go e (omega (arith, l, same_count)) (eqb (from edges e) i) refl))
    where
      go : (e : ℕ) → e < edge_count edges → (b : Bool) → eqb (from edges e) i ≡ b
          → only b (weight edges e * edge_reward edges e) ≡ only b (weight edges e * edge_reward edges' e)
      go e l true q = ap (λ r. weight edges e * r) (h e l (eqb-true (from edges e) i q))
      go e l false q = refl

module _ {c : Chain} {edges : List ℕ} (s : RewardsAlone c.edges edges) where
  pub same_reached : {i : ℕ} → FromStart c i → FromStart (repaid edges c) i
  same_reached FromStart.begin = FromStart.begin
  same_reached (FromStart.step e l f n) =
      subst (FromStart (repaid edges c)) (sym (s.tos e))
      (FromStart.step e (omega (arith, l, same_count s)) (subst (FromStart (repaid edges c)) (s.froms e) (same_reached f))
      (λ g. n (subst (Goal c) (sym (s.froms e)) g)))

  pub same_live : {i : ℕ} → Live c i → Live (repaid edges c) i
  same_live a = record { unwon = a.unwon; reached = same_reached a.reached; leads = same_path s a.leads }

-- So the chain's sets are the same.
pub same_right : {c : Chain} {edges : List ℕ} {k : Sets} → RewardsAlone c.edges edges → Right c k → Right (repaid edges c) k
same_right {c} {edges} s r =
    record {
      good = λ i. (λ e. same_path s ((r.good i).0 e), λ g. (r.good i).1 (same_path (swapped s) g));
      live = λ i. (λ e. same_live s ((r.live i).0 e), λ g. (r.live i).1 (same_live {c = repaid edges c} {edges = c.edges} (swapped s) g));
    }
