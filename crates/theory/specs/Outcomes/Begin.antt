-- What the right sets of a chain decide: how the start stands, and whether the expected reward is infinite.
use Rattle.std.specs.Prelude.{ℕ, ◌<◌, ◌≡◌}
use Rattle.std.proofs.Math.Logic.Dec
use Rattle.std.proofs.Math.Decide.{ℕ_discrete}
use Rattle.meaning.specs.Number.{bit}
use Rattle.meaning.specs.Chain.{Chain, edge_count, from, to, Goal, ToGoal, FromStart, begin, step, Live}
use Rattle.meaning.specs.Figure.{Missed}
use Rattle.meaning.specs.Step.{Sets, Right}
use Rattle.theory.specs.Numbers.Search.{turned, anywhere}

-- The start is a goal, has no path to one, or is live.
pub data Begins (c : Chain) : Type 0 where
  won : Goal c c.start → Begins c
  lost : (ToGoal c c.start → ⊥) → Begins c
  live : Live c c.start → Begins c

module _ (c : Chain) (k : Sets) (right : Right c k) where
  unfoldable pub leading : (i : ℕ) → Dec (ToGoal c i)
  unfolding turned ℕ_discrete
  leading i = turned (right.good i).0 (right.good i).1 (ℕ_discrete (bit k.good i) 1)

  unfoldable pub begins : Begins c
  unfolding leading ℕ_discrete
  begins =
      elim (ℕ_discrete (bit c.goals c.start) 1) [
        | yes g ↦ won g
        | no g ↦ elim (leading c.start) [
          | yes p ↦ live (record { unwon = g; reached = begin; leads = p })
          | no p ↦ lost p
        ]
      ]

  -- Edge e leaves a live state for one that has no path to a goal.
  abbrev pub Misses : ℕ → Type 0
  Misses e = (bit k.live (from c.edges e) ≡ 1) × (ToGoal c (to c.edges e) → ⊥)

  pub misses_missed : (e : ℕ) × ((e < edge_count c.edges) × Misses e) → Missed c
  misses_missed w =
      let e = w.0 in
      let a = (right.live (from c.edges e)).0 w.1.1.0 in
      (to c.edges e, step e w.1.0 a.reached a.unwon, w.1.1.1)

  -- Where the start has a path to a goal and no edge misses, all that is reached has one.
  pub reached_leads : ToGoal c c.start → ((e : ℕ) → e < edge_count c.edges → Misses e → ⊥) → {i : ℕ} → FromStart c i → ToGoal c i
  unfolding leading
  reached_leads s h begin = s
  reached_leads s h (step e l f u) =
      elim (leading (to c.edges e)) [
        | yes p ↦ p
        | no p ↦ absurd (h e l ((right.live (from c.edges e)).1 (record { unwon = u; reached = f; leads = reached_leads s h f }), p))
      ]

  unfoldable pub missing : Dec (Missed c)
  unfolding leading anywhere Dec.and Dec.not ℕ_discrete
  missing =
      elim (leading c.start) [
        | no p ↦ yes (c.start, begin, p)
        | yes p ↦ elim (anywhere Misses (edge_count c.edges) (λ e.
            Dec.and (ℕ_discrete (bit k.live (from c.edges e)) 1) (Dec.not (leading (to c.edges e))))) [
              | yes w ↦ yes (misses_missed w)
              | no w ↦ no (λ m. m.2 (reached_leads p (λ e l n. w (e, (l, n))) m.1))
            ]
      ]
