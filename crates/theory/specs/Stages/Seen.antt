-- A table as a system without Unknown: a step whose new rows are rounded is a removal there.
use Rattle.std.specs.Prelude.{ℕ, ◌+◌, ◌*◌, ◌<◌, ◌≡◌, refl, length}
use Rattle.std.proofs.Common.{◌∙◌, ⊎_elim, arith, eq-eqb, ne_eqb}
use Rattle.meaning.specs.Number.{sum_to}
use Rattle.meaning.specs.Row.{Row, cell}
use Rattle.meaning.specs.Step.{Table, row, outside, combined}
use Rattle.theory.specs.Numbers.Sum.{same, sum_next}
use Rattle.theory.specs.Numbers.Trimmed.{Trimmed, trimmed_add, trimmed_scale, trimmed_more, trimmed_same}
use Rattle.theory.specs.Figures.System.{System}
use Rattle.theory.specs.Figures.Moved.{RowTrimmed, row_trimmed_by}
use Rattle.theory.specs.Figures.Cleared.{outer, handed}
use Rattle.theory.specs.Rows.Relation.{combined_cell, combined_own}

abbrev pub seen : ℕ → Table → System
seen n t =
    record {
      a = λ i j. cell (row t i) j;
      out = λ i. cell (row t i) n + cell (row t i) (n + 1);
      g = λ i. cell (row t i) n;
    }

-- A row combined with a D that is rounded is rounded.
pub combined_trimmed : (e R s d d' : ℕ) (p r : Row) → Trimmed e R d d' → (j : ℕ) → j < length r
    → Trimmed e R (cell (combined s d p r) j) (cell (combined s d' p r) j)
combined_trimmed e R s d d' p r D j h =
    ⊎_elim
    (λ (q : j ≡ s).
    let l : s < length r = omega arith in
    rw (q, combined_own s d p r l, combined_own s d' p r l) (trimmed_more e 0 R (omega arith) (trimmed_same e 0)))
    (λ (q : j ≡ s → ⊥).
    rw (combined_cell s d p r j h q, combined_cell s d' p r j h q)
    (trimmed_add e R
    (let z : (k : ℕ) → cell r j * k ≡ k * cell r j = λ k. omega arith in rw (z d, z d') (trimmed_scale e R (cell r j) D))
    (trimmed_more e 0 R (omega arith) (trimmed_same e (cell r s * cell p j)))))
    (same j s)

module _ (n s : ℕ) (t : Table) (inside : s < n) (unknown_none : cell (row t s) (n + 2) ≡ 0) where
  seen_outer : outer (seen n t) n s ≡ outside n s (row t s)
  seen_outer =
      let f : ℕ → ℕ = cell (row t s) in
      let a : sum_to f n + (f n + f (n + 1)) ≡ sum_to f (n + 3) =
      omega (arith, sum_next f n (n + 1) (omega arith), sum_next f (n + 1) (n + 2) (omega arith), sum_next f (n + 2) (n + 3) (omega arith)) in
      rw a

  -- The row of i with its weight to s handed on, column by column.
  module _ (i : ℕ) (wide : length (row t i) ≡ n + 4) where
    abbrev step : Row
    step = combined s (outside n s (row t s)) (row t s) (row t i)

    pub step_cell : (j : ℕ) → j < n + 2 → (j ≡ s → ⊥)
        → cell step j ≡ cell (row t i) j * outer (seen n t) n s + cell (row t i) s * cell (row t s) j
    step_cell j h d = combined_cell s _ (row t s) (row t i) j (omega arith) d ∙ rw seen_outer

    handed_state : (j : ℕ) → j < n → (handed (seen n t) n s).a i j ≡ cell step j
    handed_state j h =
        ⊎_elim
        (λ (q : j ≡ s). rw (eq-eqb j s q, q, combined_own s (outside n s (row t s)) (row t s) (row t i) (omega arith)))
        (λ (q : j ≡ s → ⊥). rw (ne_eqb j s q, step_cell j (omega arith) q))
        (same j s)

    -- A new row whose columns, f times over, are those rounded.
    pub seen_row : (e R f : ℕ) (t' : Table) → ((j : ℕ) → j < n + 2 → Trimmed e R (cell step j) (f * cell (row t' i) j))
        → RowTrimmed e R f (handed (seen n t) n s) (seen n t') n i
    seen_row e R f t' T =
        row_trimmed_by e R f (handed (seen n t) n s) (seen n t') n i (cell step (n + 1)) (cell (row t' i) (n + 1))
        (rw (step_cell (n + 1) (omega arith) (omega arith)) (omega arith))
        refl
        (λ j h. rw (handed_state j h) (T j (omega arith)))
        (rw (← step_cell n (omega arith) (omega arith)) (T n (omega arith)))
        (T (n + 1) (omega arith))
