-- A state that leads out of the table keeps weight outside its own loop, whatever is removed before it.
use Rattle.std.specs.Prelude.{ℕ, ◌+◌, ◌*◌, ◌≤◌, ◌<◌, ◌≡◌, refl, ◌⊎◌, Bool, [], eqb, length}
use Rattle.std.proofs.Common.{◌∙◌, inl, inr, ⊎_elim, arith, mul-pos, eq-eqb, ne_eqb}
use Rattle.meaning.specs.Row.{Row, cell, reward, settled, rounding}
use Rattle.meaning.specs.Step.{Table, row, outside, combined, renewed, removed}
use Rattle.theory.specs.Numbers.Sum.{same, sum_two}
use Rattle.theory.specs.Numbers.Tab.{tab_at}
use Rattle.theory.specs.Rows.Relation.{combined_cell, combined_length}
use Rattle.theory.specs.Rows.Settle.{settled_left}

-- State i has weight to Goal, Trap or Unknown, or to a state that leads there.
pub data Leads (n : ℕ) (t : Table) : ℕ → Type 0 where
  leaves : {i : ℕ} (j : ℕ) → n ≤ j → j < n + 3 → 0 < cell (row t i) j → Leads n t i
  passes : {i : ℕ} (j : ℕ) → j < n → 0 < cell (row t i) j → Leads n t j → Leads n t i

-- What holds of a table, where Q holds the states that are kept: a kept row has n + 4 columns, with weight to kept states only, and leads
-- out; and in the bounds engine it has no Reward.
pub record Sound (b : Bool) (n : ℕ) (Q : ℕ → Type 0) (t : Table) : Type 0 where
  pub inside : (i : ℕ) → Q i → i < n
  pub wide : (i : ℕ) → Q i → length (row t i) ≡ n + 4
  pub closed : (i j : ℕ) → Q i → j < n → 0 < cell (row t i) j → Q j
  pub leads : (i : ℕ) → Q i → Leads n t i
  pub unpaid : (i : ℕ) → Q i → b ≡ rounding → reward n (row t i) ≡ 0

-- Two columns, one of them the row's own.
beside : (n s j : ℕ) (r : Row) → s < n → j < n + 3 → (j ≡ s → ⊥) → 0 < cell r j → 0 < outside n s r
beside n s j r h k d p = omega (arith, sum_two (cell r) (n + 3) j s k (omega arith) d)

leads_out : (n : ℕ) (t : Table) (s : ℕ) → s < n → (i : ℕ) → i ≡ s → Leads n t i → 0 < outside n s (row t s)
leads_out n t s h i e (leaves j a b p) = beside n s j (row t s) h b (omega arith) (rw e at p)
leads_out n t s h i e (passes j a p l) =
    ⊎_elim
    (λ (q : j ≡ s). leads_out n t s h j q l)
    (λ (d : j ≡ s → ⊥). beside n s j (row t s) h (omega arith) d (rw e at p))
    (same j s)

-- Every kept state has weight outside its own loop.
pub sound_loose : (b : Bool) (n : ℕ) (Q : ℕ → Type 0) (t : Table) → Sound b n Q t → (i : ℕ) → Q i → 0 < outside n i (row t i)
sound_loose b n Q t s i q = leads_out n t i (s.inside i q) i refl (s.leads i q)

-- A row after a removal, before it is settled.
abbrev pub step : ℕ → ℕ → Table → ℕ → Row
step n s t i = combined s (outside n s (row t s)) (row t s) (row t i)

-- A row after the removal of s: that of another state stays where it has no weight to s, and is a settled step where it has.
pub removes : (b : Bool) (n s : ℕ) (t : Table) (P : Row → Type 0) (i : ℕ) → i < n → (i ≡ s → ⊥) → (cell (row t i) s ≡ 0 → P (row t i))
    → (0 < cell (row t i) s → P (settled b n (step n s t i))) → P (row (removed b n s t) i)
unfolding removed renewed
removes b n s t P i h d p q =
    rw (tab_at n (λ i. renewed b n s (outside n s (row t s)) (row t s) (eqb i s) (row t i)) [] i h, ne_eqb i s d)
    (⊎_elim
    (λ (e : cell (row t i) s ≡ 0). rw (eq-eqb (cell (row t i) s) 0 e) (p e))
    (λ (z : cell (row t i) s ≡ 0 → ⊥). rw (ne_eqb (cell (row t i) s) 0 z) (q (omega arith)))
    (same (cell (row t i) s) 0))

-- A step on: out of the states, or to one that leads out.
abbrev Way : ℕ → Table → ℕ → Type 0
Way n t j = ((n ≤ j) × (j < n + 3)) ⊎ ((j < n) × Leads n t j)

way : (n : ℕ) (t : Table) (i j : ℕ) → 0 < cell (row t i) j → Way n t j → Leads n t i
way n t i j p (inl w) = leaves j w.0 w.1 p
way n t i j p (inr w) = passes j w.0 p w.1

module _ (b : Bool) (n s : ℕ) (t : Table) (Q : ℕ → Type 0) (sound : Sound b n Q t) (here : s < n) where
  abbrev t' : Table
  t' = removed b n s t

  -- What is left of s: a way on that is not back to s.
  abbrev Exit : Type 0
  Exit = (j : ℕ) × (j < n + 3) × (j ≡ s → ⊥) × (0 < cell (row t s) j) × Way n t' j

  kept : (i : ℕ) → Q i → 0 < cell (row t i) s → Q s
  kept i q p = sound.closed i s q here p

  pub step_wide : (i : ℕ) → Q i → length (step n s t i) ≡ n + 4
  step_wide i q = combined_length s _ (row t s) (row t i) ∙ sound.wide i q

  pub step_cell : (i : ℕ) → Q i → (j : ℕ) → j < n + 4 → (j ≡ s → ⊥)
      → cell (step n s t i) j ≡ cell (row t i) j * outside n s (row t s) + cell (row t i) s * cell (row t s) j
  step_cell i q j h d = combined_cell s _ (row t s) (row t i) j (omega (arith, sound.wide i q)) d

  pub step_unpaid : (i : ℕ) → Q i → 0 < cell (row t i) s → b ≡ rounding → reward n (step n s t i) ≡ 0
  step_unpaid i q p e =
      step_cell i q (n + 3) (omega arith) (omega arith)
      ∙ rw (sound.unpaid i q e, sound.unpaid s (kept i q p) e) (omega arith)

  carry : (i j : ℕ) → Q i → (i ≡ s → ⊥) → j < n + 3 → (j ≡ s → ⊥) → Way n t' j
      → (0 < cell (row t i) j) ⊎ ((0 < cell (row t i) s) × (0 < cell (row t s) j)) → Leads n t' i
  carry i j q d h e w p =
      ⊎_elim
      (λ (c : 0 < cell (row t' i) j). way n t' i j c w)
      (λ (c : 0 < cell (row t' i) (n + 2)). leaves (n + 2) (omega arith) (omega arith) c)
      (removes b n s t (λ r. (0 < cell r j) ⊎ (0 < cell r (n + 2))) i (sound.inside i q) d
      (λ z. inl (⊎_elim (λ a. a) (λ a. absurd (omega (arith, z, a.0))) p))
      (λ c.
      settled_left b n (step n s t i) (step_wide i q) j (step_unpaid i q c)
      (rw (step_cell i q j (omega arith) e)
      (⊎_elim
      (λ a. omega (arith, mul-pos a (sound_loose b n Q t sound s (kept i q c))))
      (λ a. omega (arith, mul-pos a.0 a.1))
      p))))

  both : (i : ℕ) → Leads n t i → Q i → ((i ≡ s → ⊥) → Leads n t' i) × (i ≡ s → Exit)
  both i (leaves j a h p) q =
      let d : j ≡ s → ⊥ = omega arith in
      (λ k. carry i j q k h d (inl (a, h)) (inl p), λ e. (j, h, d, rw e at p, inl (a, h)))
  both i (passes j a p l) q =
      let ih = both j l (sound.closed i j q a p) in
      ⊎_elim
      (λ (e : j ≡ s).
      let x = ih.1 e in
      (λ k. carry i x.0 q k x.1 x.2 x.4 (inr (rw e at p, x.3)), λ _. x))
      (λ (d : j ≡ s → ⊥).
      let w : Way n t' j = inr (a, ih.0 d) in
      (λ k. carry i j q k (omega arith) d w (inl p), λ e. (j, omega arith, d, rw e at p, w)))
      (same j s)

  pub removed_leads : (i : ℕ) → Q i → (i ≡ s → ⊥) → Leads n t' i
  removed_leads i q d = (both i (sound.leads i q) q).0 d
