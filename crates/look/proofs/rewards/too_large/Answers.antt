use Prim.Native.Nat.{ℕ, ◌+◌}
use mathlib.Core.Path.{◌≡◌, refl, sym, subst}
use mathlib.Core.Logic.{◌⊎◌, inl, inr}
use mathlib.Core.List.{List}
use native.Mathlib.Omega.{arith}
use Rattle.std.specs.Option.{MatchOption, IsSomeAnd}
use Rattle.std.proofs.Common.{Option, None, Some, rules}
use Rattle.meaning.specs.Chain.{most_states}
use Rattle.meaning.specs.Refusal.{StateRewardFault, EdgeRewardFault, RewardFault, of_state, of_edge}
use Rattle.look.specs.Least.{least}
use Rattle.look.specs.Edges.{EdgePlace}
use Rattle.look.proofs.Found.{least_of}
use Rattle.look.proofs.rewards.too_large.Goals as goal

-- 11 is at a state or at an edge.
module _ (n : ℕ) (rewards edges : List ℕ) where
  edge-fault : (p : ℕ) → EdgePlace edges p → RewardFault n rewards edges p
  edge-fault p f = subst (RewardFault n rewards edges) (sym f.1.0) (of_edge f.0 f.1.1)

  either : (p : ℕ) → RewardFault n rewards edges p → StateRewardFault n rewards p ⊎ EdgePlace edges p
  either _ (of_state i h) = inl h
  either _ (of_edge e h) = inr (e, (refl, h))

-- The first edge's place is the first place.
placed : (edges : List ℕ) (Q : ℕ → ℕ → Type 0) → ((e p : ℕ) → Q e p → p ≡ most_states + e) → (e p : Option ℕ) → least (EdgeRewardFault edges) e
    → MatchOption e (p ≡ None) (λ e. IsSomeAnd p (Q e)) → least (EdgePlace edges) p
placed edges Q at None p f h = rw h (λ q w. f w.0 w.1.1)
placed edges Q at (Some e) None f h = absurd h
placed edges Q at (Some e) (Some p) f h =
    let i = at e p h in
    record { here = (e, (i, f.here)); before = λ q l w. f.before w.0 (omega (arith, i, w.1.0)) w.1.1 }

pub returns : goal.returns
returns c =
    let a = c.args in
    let rewards = a.rewards.now in
    let edges = a.edges.now in
    rw c.lesser.ensures
    (least_of (StateRewardFault a.n rewards) (EdgePlace edges) (RewardFault a.n rewards edges) of_state (edge-fault a.n rewards edges) (either a.n rewards edges)
    _ _ c.of_states.ensures (placed edges _ (λ e p h. search rules) _ _ c.of_edges.ensures c.map.ensures.cases))
