-- What a settled row keeps of the row before it was settled.
use Rattle.std.specs.Prelude.{ℕ, ◌+◌, ◌^◌, ◌≤◌, ◌<◌, ◌≡◌, refl, ◌⊎◌, Bool, true, false, ltb, length}
use Rattle.std.proofs.Common.{◌∙◌, inl, inr, ⊎_elim, arith, ltb-true, ltb-false}
use Rattle.std.proofs.Math.Nat.{zero-div}
use Rattle.meaning.specs.Number.{choose}
use Rattle.meaning.specs.Chain.{M}
use Rattle.meaning.specs.Row.{Row, cell, total, reward, shift_of, lowest, rounded, bounded, settled, exact, rounding}
use Rattle.theory.specs.Rows.Terms.{lowest_positive, lowest_zero, lowest_one, lowest_length, over_cell}
use Rattle.theory.specs.Rows.Relation.{AtMostRow, AtLeastRow, lowest_most, lowest_least}
use Rattle.theory.specs.Numbers.Shift.{shift_fits, shift_some}
use Rattle.theory.specs.Rows.Round.{rounded_length, rounded_cell, rounded_total, rounded_least, rounded_left}

-- A settled row is the lowest terms, or in the bounds engine those rounded where they do not fit.
pub settle : (P : Row → Type 0) (b : Bool) (n : ℕ) (r : Row) → (b ≡ exact ⊎ total n (lowest r) ≤ M → P (lowest r))
    → (b ≡ rounding → M < total n (lowest r) → P (rounded n (lowest r))) → P (settled b n r)
unfolding settled bounded
settle P false n r p q = p (inl refl)
settle P true n r p q = go (ltb M (total n (lowest r))) refl
  where
    go : (t : Bool) → ltb M (total n (lowest r)) ≡ t → P (choose t (rounded n (lowest r)) (lowest r))
    go true e = q refl (ltb-true M (total n (lowest r)) e)
    go false e = p (inr (ltb-false M (total n (lowest r)) e))

-- The exact engine does not round.
pub one_engine : {A : Type 0} (b : Bool) → b ≡ exact → b ≡ rounding → A
one_engine b e f = absurd (let z : ◌≡◌ {A = ℕ} 0 1 = cc in omega arith)

-- Where the lowest terms fit, both engines keep them.
pub settled_same : (b : Bool) (n : ℕ) (r : Row) → (b ≡ rounding → M < total n (lowest r) → ⊥) → settled b n r ≡ lowest r
settled_same b n r h = settle (λ q. q ≡ lowest r) b n r (λ _. refl) (λ e l. absurd (h e l))

module _ (b : Bool) (n : ℕ) (r : Row) (wide : length r ≡ n + 4) where
  low_wide : length (lowest r) ≡ n + 4
  low_wide = lowest_length r ∙ wide

  abbrev shift : ℕ
  shift = shift_of (total n (lowest r))

  pub settled_length : length (settled b n r) ≡ n + 4
  settled_length =
      settle (λ q. length q ≡ n + 4) b n r (λ _. low_wide) (λ _ _. rounded_length shift n (lowest r) low_wide)

  pub settled_fits : b ≡ rounding → total n (settled b n r) ≤ M
  settled_fits e =
      settle (λ q. total n q ≤ M) b n r
      (⊎_elim (λ f. one_engine b f e) (λ h. h))
      (λ _ h. rw (rounded_total shift n (lowest r) low_wide) (shift_fits (total n (lowest r))))

  pub settled_least : (x : ℕ) (v : ℕ → ℕ) → (b ≡ rounding → v (n + 2) ≡ 0) → AtLeastRow n r x v → AtLeastRow n (settled b n r) x v
  settled_least x v u h =
      let l : AtLeastRow n (lowest r) x v = lowest_least n r x v h in
      settle (λ q. AtLeastRow n q x v) b n r (λ _. l) (λ e _. rounded_least shift n (lowest r) low_wide x v (u e) l)

  pub settled_most : (x : ℕ) (v : ℕ → ℕ) → b ≡ exact → AtMostRow n r x v → AtMostRow n (settled b n r) x v
  settled_most x v f h =
      let l : AtMostRow n (lowest r) x v = lowest_most n r x v h in
      settle (λ q. AtMostRow n q x v) b n r (λ _. l) (λ e _. one_engine b f e)

  pub settled_zero : (j : ℕ) → (b ≡ rounding → j ≡ n + 2 → ⊥) → cell r j ≡ 0 → cell (settled b n r) j ≡ 0
  settled_zero j d z =
      let l : cell (lowest r) j ≡ 0 = lowest_zero r j z in
      settle (λ q. cell q j ≡ 0) b n r
      (λ _. l)
      (λ e _. rounded_cell shift n (lowest r) low_wide j (d e) ∙ over_cell (2 ^ shift) (lowest r) j ∙ rw l (zero-div _))

  -- A weight stays, or some weight is Unknown.
  pub settled_left : (j : ℕ) → (b ≡ rounding → reward n r ≡ 0) → 0 < cell r j
      → (0 < cell (settled b n r) j) ⊎ (0 < cell (settled b n r) (n + 2))
  settled_left j z p =
      settle (λ q. (0 < cell q j) ⊎ (0 < cell q (n + 2))) b n r
      (λ _. inl (lowest_positive r j p))
      (λ e m.
      inr
      (rounded_left shift n (lowest r) low_wide (shift_some (total n (lowest r)) m) (lowest_one r j p) (lowest_zero r (n + 3) (z e))))
