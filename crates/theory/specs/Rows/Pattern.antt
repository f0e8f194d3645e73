-- Where a row has a weight once a state is removed, before any rounding.
use Rattle.std.specs.Prelude.{ℕ, ◌+◌, ◌*◌, ◌<◌, ◌≡◌, ◌⊎◌, ◌↔◌, length}
use Rattle.std.proofs.Common.{sym, ap, subst, inl, inr, ⊎_elim, arith, mul-pos}
use Rattle.meaning.specs.Row.{Row, cell, lowest}
use Rattle.meaning.specs.Step.{combined}
use Rattle.theory.specs.Numbers.Sum.{same}
use Rattle.theory.specs.Rows.Terms.{lowest_positive, lowest_zero}
use Rattle.theory.specs.Rows.Relation.{combined_cell, combined_own}

-- Lowest terms have a weight just where the row has one.
pub lowest_weighs : (r : Row) (j : ℕ) → (0 < cell (lowest r) j) ↔ (0 < cell r j)
lowest_weighs r j = (
  λ h.
      ⊎_elim
      (λ (e : cell r j ≡ 0). absurd (omega (arith, h, lowest_zero r j e)))
      (λ (d : cell r j ≡ 0 → ⊥). omega arith)
      (same (cell r j) 0),
  lowest_positive r j,
)

-- A sum of products that are weighed by numbers above 0 is above 0 just where one of the two is.
mixed : (a d b c : ℕ) → 0 < d → 0 < b → (0 < a * d + b * c) ↔ ((0 < a) ⊎ (0 < c))
mixed a d b c hd hb = (there, ⊎_elim (λ h. omega (arith, mul-pos h hd)) (λ h. omega (arith, mul-pos hb h)))
  where
    there : 0 < a * d + b * c → (0 < a) ⊎ (0 < c)
    there h =
        ⊎_elim
        (λ (e : a ≡ 0).
        ⊎_elim
        (λ (f : c ≡ 0). absurd (omega (arith, h, ap (λ z. z * d) e, ap (λ z. b * z) f)))
        (λ (f : c ≡ 0 → ⊥). inr (omega arith))
        (same c 0))
        (λ (e : a ≡ 0 → ⊥). inl (omega arith))
        (same a 0)

-- The row r has a weight to s, p is the row of s, and d, which is the D of s, is above 0.
module _ (s d : ℕ) (p r : Row) (outside : 0 < d) (leads : 0 < cell r s) where
  -- The new row has no weight to s, and one in each other column in which the old row or the row of s has one, and in no other.
  pub pattern : (j : ℕ) → j < length r → (0 < cell (combined s d p r) j) ↔ ((j ≡ s → ⊥) × ((0 < cell r j) ⊎ (0 < cell p j)))
  pattern j h = (there, λ w. subst (λ z. 0 < z) (sym (combined_cell s d p r j h w.0)) (law.1 w.1))
    where
      law : (0 < cell r j * d + cell r s * cell p j) ↔ ((0 < cell r j) ⊎ (0 < cell p j))
      law = mixed (cell r j) d (cell r s) (cell p j) outside leads

      there : 0 < cell (combined s d p r) j → (j ≡ s → ⊥) × ((0 < cell r j) ⊎ (0 < cell p j))
      there w =
          let other : j ≡ s → ⊥ =
          λ e. omega (arith, w, ap (cell (combined s d p r)) e, combined_own s d p r (omega arith)) in
          (other, law.0 (subst (λ z. 0 < z) (combined_cell s d p r j h other) w))

  -- So have its lowest terms.
  pub pattern_lowest : (j : ℕ) → j < length r → (0 < cell (lowest (combined s d p r)) j) ↔ ((j ≡ s → ⊥) × ((0 < cell r j) ⊎ (0 < cell p j)))
  pattern_lowest j h =
      let low = lowest_weighs (combined s d p r) j in
      let law = pattern j h in
      (λ w. law.0 (low.0 w), λ w. low.1 (law.1 w))
