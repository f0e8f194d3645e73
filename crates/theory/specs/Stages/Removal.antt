-- What holds of the kept rows of a table is kept by the removal of a state.
use Rattle.std.specs.Prelude.{ℕ, ◌+◌, ◌*◌, ◌<◌, ◌≡◌, Bool, length}
use Rattle.std.proofs.Common.{ap, ◌∙◌, ⊎_elim, arith}
use Rattle.meaning.specs.Row.{Row, cell, reward, settled, exact, rounding}
use Rattle.meaning.specs.Step.{Table, row, outside, combined, removed}
use Rattle.theory.specs.Numbers.Sum.{same}
use Rattle.theory.specs.Rows.Relation.{AtMostRow, AtLeastRow, combined_length, combined_cell, combined_own, combined_most, combined_least}
use Rattle.theory.specs.Rows.Settle.{settled_zero, settled_length, settled_least, settled_most, one_engine}
use Rattle.theory.specs.Stages.Leads.{Sound, step, step_wide, step_cell, step_unpaid, removes, removed_leads}

-- R, which may hold of the row of a state, holds of a row after a step if it holds of both rows before.
abbrev pub Steady : Bool → ℕ → (ℕ → Row → Type 0) → Type 0
Steady b n R =
    (s i : ℕ) (p r : Row) → s < n → length r ≡ n + 4 → R s p → R i r → R i (settled b n (combined s (outside n s p) p r))

module _ (b : Bool) (n : ℕ) where
  pub steady_least : (v : ℕ → ℕ) → (b ≡ rounding → v (n + 2) ≡ 0) → Steady b n (λ i r. AtLeastRow n r (v i) v)
  steady_least v u s i p r h w x y =
      settled_least b n _ (combined_length s _ p r ∙ w) (v i) v u (combined_least n s p r h w (v i) v y x)

  pub steady_most : (v : ℕ → ℕ) → b ≡ exact → Steady b n (λ i r. AtMostRow n r (v i) v)
  steady_most v u s i p r h w x y =
      settled_most b n _ (combined_length s _ p r ∙ w) (v i) v u (combined_most n s p r h w (v i) v y x)

  -- In the exact engine nothing becomes Unknown.
  pub steady_known : b ≡ exact → Steady b n (λ i r. cell r (n + 2) ≡ 0)
  steady_known e s i p r h w x y =
      settled_zero b n _ (combined_length s _ p r ∙ w) (n + 2) (λ f. one_engine b e f)
      (combined_cell s _ p r (n + 2) (omega arith) (omega arith) ∙ rw (x, y) (omega arith))

-- A map between the kept states.
pub sound_map : (b : Bool) (n : ℕ) (P Q : ℕ → Type 0) (t : Table) → ((i : ℕ) → P i → Q i) → ((i : ℕ) → Q i → P i) → Sound b n P t → Sound b n Q t
sound_map b n P Q t f g s =
    record {
      inside = λ i q. s.inside i (g i q);
      wide = λ i q. s.wide i (g i q);
      closed = λ i j q h p. f j (s.closed i j (g i q) h p);
      leads = λ i q. s.leads i (g i q);
      unpaid = λ i q e. s.unpaid i (g i q) e;
    }

module _ (b : Bool) (n s : ℕ) (t : Table) (Q : ℕ → Type 0) (sound : Sound b n Q t) (here : s < n) where
  abbrev pub Left : ℕ → Type 0
  Left i = Q i × (i ≡ s → ⊥)

  -- A state's weight goes only to states that are left.
  step_closed : (i j : ℕ) → Q i → 0 < cell (row t i) s → j < n → 0 < cell (step n s t i) j → Left j
  step_closed i j q c h p =
      ⊎_elim
      (λ (e : j ≡ s).
      absurd (omega (arith, combined_own s (outside n s (row t s)) (row t s) (row t i) (omega (arith, sound.wide i q)), rw e at p)))
      (λ (d : j ≡ s → ⊥).
      let m = step_cell b n s t Q sound here i q j (omega arith) d in
      let o = outside n s (row t s) in (
        ⊎_elim
            (λ (z : cell (row t i) j ≡ 0).
            ⊎_elim
            (λ (y : cell (row t s) j ≡ 0).
            absurd (omega (arith, m, ap (λ k. k * o) z, ap (λ k. cell (row t i) s * k) y)))
            (λ (y : cell (row t s) j ≡ 0 → ⊥). sound.closed s j (sound.closed i s q here c) h (omega arith))
            (same (cell (row t s) j) 0))
            (λ (z : cell (row t i) j ≡ 0 → ⊥). sound.closed i j q h (omega arith))
            (same (cell (row t i) j) 0),
        d,
      ))
      (same j s)

  pub sound_removed : Sound b n Left (removed b n s t)
  sound_removed =
      record {
        inside = λ i q. sound.inside i q.0;
        wide = λ i q.
            removes b n s t (λ r. length r ≡ n + 4) i (sound.inside i q.0) q.1
            (λ _. sound.wide i q.0)
            (λ _. settled_length b n _ (wide i q));
        closed = λ i j q h.
            removes b n s t (λ r. 0 < cell r j → Left j) i (sound.inside i q.0) q.1
            (λ z p. (sound.closed i j q.0 h p, λ e. omega (arith, z, rw e at p)))
            (λ c p.
            ⊎_elim
            (λ (z : cell (step n s t i) j ≡ 0). absurd (omega (arith, p, settled_zero b n (step n s t i) (wide i q) j (λ _. omega arith) z)))
            (λ (z : cell (step n s t i) j ≡ 0 → ⊥). step_closed i j q.0 c h (omega arith))
            (same (cell (step n s t i) j) 0));
        leads = λ i q. removed_leads b n s t Q sound here i q.0 q.1;
        unpaid = λ i q e.
            removes b n s t (λ r. reward n r ≡ 0) i (sound.inside i q.0) q.1
            (λ _. sound.unpaid i q.0 e)
            (λ c.
            settled_zero b n _ (wide i q) (n + 3) (λ _. omega arith)
            (step_unpaid b n s t Q sound here i q.0 c e));
      }
    where
      wide : (i : ℕ) → Left i → length (step n s t i) ≡ n + 4
      wide i q = step_wide b n s t Q sound here i q.0

  pub steady_removed : (R : ℕ → Row → Type 0) → Steady b n R → ((i : ℕ) → Q i → R i (row t i)) → (i : ℕ) → Left i
      → R i (row (removed b n s t) i)
  steady_removed R steady h i q =
      removes b n s t (R i) i (sound.inside i q.0) q.1
      (λ _. h i q.0)
      (λ c.
      steady s i (row t s) (row t i) here (sound.wide i q.0) (h s (sound.closed i s q.0 here c)) (h i q.0))
