-- The ends of edges that name no state out of its range.
use Prim.Native.Nat.{ℕ, ◌≤◌, ◌<◌}
use mathlib.Core.Logic.{inl, inr}
use mathlib.Core.List.{List}
use native.Mathlib.Omega.{arith}
use Rattle.meaning.specs.Chain.{most_states, edge_count, from, to}
use Rattle.meaning.specs.Refusal.{EndFault}

-- What is below n is below 64.
pub wide : (n : ℕ) (edges : List ℕ) → n ≤ most_states → ((e : ℕ) → EndFault n edges e → ⊥) → (e : ℕ) → EndFault most_states edges e → ⊥
wide n edges few ends e (h, inl l) = ends e (h, inl (omega arith))
wide n edges few ends e (h, inr l) = ends e (h, inr (omega arith))

module _ (edges : List ℕ) (ends : (e : ℕ) → EndFault most_states edges e → ⊥) (e : ℕ) (h : e < edge_count edges) where
  pub from_below : from edges e < most_states
  from_below = let out : most_states ≤ from edges e → ⊥ = λ l. ends e (h, inl l) in omega arith

  pub to_below : to edges e < most_states
  to_below = let out : most_states ≤ to edges e → ⊥ = λ l. ends e (h, inr l) in omega arith
