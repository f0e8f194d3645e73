-- Where no row is rounded, the bounds engine is the exact engine.
use Prim.Native.Nat.{ℕ, zero, suc, ◌≤◌, ◌<◌}
use Rattle.std.specs.Prelude.{◌≡◌, Bool, List}
use Rattle.std.proofs.Math.Path.{refl, ap}
use Rattle.std.proofs.Common.{sym, ◌∙◌, ⊎_elim, arith, eq-eqb, ne_eqb, eqb-true}
use Rattle.std.proofs.Math.Bool.{true, false}
use Rattle.std.proofs.Math.Dec.{eqb}
use Rattle.std.proofs.Math.ListN.{get_or}
use Rattle.meaning.specs.Number.{choose, bit}
use Rattle.meaning.specs.Chain.{Chain}
use Rattle.meaning.specs.Row.{Row, cell, settled, exact, rounding}
use Rattle.meaning.specs.Step.{Table, row, Sets, outside, given, first_row, no_row, first, renewed, removed, after, stage, Rounds, RoundedAt}
use Rattle.theory.specs.Numbers.Sum.{same}
use Rattle.theory.specs.Numbers.Tab.{tab_ext}
use Rattle.theory.specs.Rows.Settle.{settled_same}
use Rattle.theory.specs.Stages.Leads.{step}
use Rattle.theory.specs.Stages.Stage.{leaving}

-- Both engines settle alike a row that is not rounded.
alike : (n : ℕ) (r : Row) → (Rounds n r → ⊥) → settled rounding n r ≡ settled exact n r
alike n r h = settled_same rounding n r (λ _. h) ∙ sym (settled_same exact n r (λ _. h))

module _ (c : Chain) (k : Sets) (pay : ℕ → ℕ) (o : List ℕ) where
  abbrev n : ℕ
  n = c.states

  -- The bounds engine's table.
  abbrev at : ℕ → Table
  at p = stage rounding c k pay o p

  first_same : (RoundedAt c k pay o 0 → ⊥) → first rounding c k pay (λ _. 0) ≡ first exact c k pay (λ _. 0)
  unfolding first
  first_same none = tab_ext n _ _ (λ i h. go i h (eqb (bit k.live i) 1) refl)
    where
      go : (i : ℕ) → i < n → (t : Bool) → eqb (bit k.live i) 1 ≡ t
          → choose t (first_row rounding c k pay 0 i) (no_row n) ≡ choose t (first_row exact c k pay 0 i) (no_row n)
      go i h true e = alike n (given c k pay 0 i) (λ m. none (RoundedAt.first_row_lem i h (eqb-true (bit k.live i) 1 e) m))
      go i h false e = refl

  removed_same : (p : ℕ) → leaving c k o p ≡ true → (RoundedAt c k pay o (suc p) → ⊥)
      → removed rounding n (get_or o p 0) (at p) ≡ removed exact n (get_or o p 0) (at p)
  unfolding removed renewed
  removed_same p g none = tab_ext n _ _ (λ i h. go i h)
    where
      s : ℕ
      s = get_or o p 0

      go : (i : ℕ) → i < n
          → renewed rounding n s (outside n s (row (at p) s)) (row (at p) s) (eqb i s) (row (at p) i)
          ≡ renewed exact n s (outside n s (row (at p) s)) (row (at p) s) (eqb i s) (row (at p) i)
      go i h =
          ⊎_elim
          (λ (e : i ≡ s). rw (eq-eqb i s e))
          (λ (d : i ≡ s → ⊥).
          rw (ne_eqb i s d)
          (⊎_elim
          (λ (e : cell (row (at p) i) s ≡ 0). rw (eq-eqb (cell (row (at p) i) s) 0 e))
          (λ (z : cell (row (at p) i) s ≡ 0 → ⊥).
          rw (ne_eqb (cell (row (at p) i) s) 0 z)
          (alike n (step n s (at p) i) (λ m. none (RoundedAt.new_row p i h (g, (d, (z, m)))))))
          (same (cell (row (at p) i) s) 0)))
          (same i s)

  pub unrounded : (p : ℕ) → ((q : ℕ) → q ≤ p → RoundedAt c k pay o q → ⊥) → stage rounding c k pay o p ≡ stage exact c k pay o p
  unfolding after
  unrounded zero none = first_same (none 0 (omega arith))
  unrounded (suc p) none = go (unrounded p (λ q h. none q (omega arith))) (leaving c k o p) refl
    where
      go : at p ≡ stage exact c k pay o p → (g : Bool) → leaving c k o p ≡ g
          → choose g (removed rounding n (get_or o p 0) (at p)) (at p)
          ≡ choose g (removed exact n (get_or o p 0) (stage exact c k pay o p)) (stage exact c k pay o p)
      go rest true e = removed_same p e (none (suc p) (omega arith)) ∙ ap (removed exact n (get_or o p 0)) rest
      go rest false e = rest
