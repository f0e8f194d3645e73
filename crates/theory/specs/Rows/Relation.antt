-- What a row says of the values of its columns, and that one step of the elimination keeps it.
use Rattle.std.specs.Prelude.{ℕ, ◌+◌, ◌*◌, ◌≤◌, ◌<◌, ◌≡◌, refl, eqb, length}
use Rattle.std.proofs.Common.{ap, ◌∙◌, ⊎_elim, arith, mul-le-mul_left, eq-eqb, ne_eqb}
use Rattle.std.proofs.Math.Nat.{le_of_mul-le-mul_left}
use Rattle.meaning.specs.Number.{sum_to, choose}
use Rattle.meaning.specs.Row.{Row, cell, total, divisor, lowest}
use Rattle.meaning.specs.Step.{outside, combined}
use Rattle.theory.specs.Numbers.Sum.{same, sum_ext, sum_add, sum_scale, sum_term, sum_hole}
use Rattle.theory.specs.Numbers.Tab.{tab_at, tab_length}
use Rattle.theory.specs.Rows.Terms.{divisor_whole, lowest_cell, lowest_total}

-- What a row comes to where the columns are worth v.
abbrev pub worth : ℕ → Row → (ℕ → ℕ) → ℕ
worth n r v = sum_to (λ j. cell r j * v j) (n + 4)

-- The value x is at most, and at least, what the row says.
abbrev pub AtMostRow : ℕ → Row → ℕ → (ℕ → ℕ) → Type 0
AtMostRow n r x v = total n r * x ≤ worth n r v

abbrev pub AtLeastRow : ℕ → Row → ℕ → (ℕ → ℕ) → Type 0
AtLeastRow n r x v = worth n r v ≤ total n r * x

-- The total is what the row comes to where each of its weights is worth 1.
pub ones : (n : ℕ) (r : Row) → sum_to (λ j. cell r j * 1) (n + 3) ≡ total n r
ones n r = sum_ext _ _ (n + 3) (λ j h. omega arith)

module _ (n : ℕ) (r : Row) where
  lowest_worth : (v : ℕ → ℕ) → worth n r v ≡ divisor r * worth n (lowest r) v
  lowest_worth v =
      sum_ext _ (λ j. divisor r * (cell (lowest r) j * v j)) (n + 4) (λ j h. rw (lowest_cell r j) (omega arith))
      ∙ sum_scale (divisor r) (λ j. cell (lowest r) j * v j) (n + 4)

  pub lowest_most : (x : ℕ) (v : ℕ → ℕ) → AtMostRow n r x v → AtMostRow n (lowest r) x v
  lowest_most x v h =
      le_of_mul-le-mul_left
      {k = divisor r} (omega (arith, lowest_worth v, ap (λ k. k * x) (lowest_total r n))) (divisor_whole r)

  pub lowest_least : (x : ℕ) (v : ℕ → ℕ) → AtLeastRow n r x v → AtLeastRow n (lowest r) x v
  lowest_least x v h =
      le_of_mul-le-mul_left
      {k = divisor r} (omega (arith, lowest_worth v, ap (λ k. k * x) (lowest_total r n))) (divisor_whole r)

spread : (a D b c v : ℕ) → (a * D + b * c) * v ≡ D * (a * v) + b * (c * v)
spread a D b c v = omega arith

together : (D b c v m h z : ℕ) → m ≡ h → h + (D * (b * v) + b * (c * v)) ≡ z → m + (b * D + b * c) * v ≡ z
together D b c v m h z p q = omega arith

-- C is worth of the combined row, R and P of the two, T and Q = D + c their totals, b the weight from the one to the other.
combine_total : (C R P D b c : ℕ) → P ≡ D + c → C + (b * D + b * c) * 1 ≡ D * R + b * P → C ≡ R * D
combine_total C R P D b c p q = omega (arith, ap (λ k. b * k) p)

combine_most : (C R P D b c v x T Q : ℕ) → Q ≡ D + c → C + (b * D + b * c) * v ≡ D * R + b * P → T * x ≤ R → Q * v ≤ P → T * D * x ≤ C
combine_most C R P D b c v x T Q p q h k =
    omega (arith, ap (λ k. b * k * v) p, mul-le-mul_left D h, mul-le-mul_left b k)

combine_least : (C R P D b c v x T Q : ℕ) → Q ≡ D + c → C + (b * D + b * c) * v ≡ D * R + b * P → R ≤ T * x → P ≤ Q * v → C ≤ T * D * x
combine_least C R P D b c v x T Q p q h k =
    omega (arith, ap (λ k. b * k * v) p, mul-le-mul_left D h, mul-le-mul_left b k)

-- One step on a row r with p the row of s and d any number: any columns, worth anything.
module _ (s d : ℕ) (p r : Row) where
  pub combined_length : length (combined s d p r) ≡ length r
  unfolding combined
  combined_length = tab_length 0 (length r) _

  pub combined_cell : (j : ℕ) → j < length r → (j ≡ s → ⊥) → cell (combined s d p r) j ≡ cell r j * d + cell r s * cell p j
  unfolding combined
  combined_cell j h e = tab_at (length r) _ 0 j h ∙ rw (ne_eqb j s e)

  pub combined_own : s < length r → cell (combined s d p r) s ≡ 0
  unfolding combined
  combined_own h = tab_at (length r) _ 0 s h ∙ rw (eq-eqb s s refl)

  point : (v : ℕ → ℕ) (j : ℕ) → j < length r
      → cell (combined s d p r) j * v j ≡ choose (eqb j s) 0 (d * (cell r j * v j) + cell r s * (cell p j * v j))
  point v j h =
      ⊎_elim
      (λ (e : j ≡ s).
      let z : cell (combined s d p r) j ≡ 0 = rw e (combined_own (omega arith)) in
      rw (eq-eqb j s e) (omega (arith, ap (λ k. k * v j) z)))
      (λ (e : j ≡ s → ⊥).
      rw (ne_eqb j s e)
      (ap (λ k. k * v j) (combined_cell j h e) ∙ spread (cell r j) d (cell r s) (cell p j) (v j)))
      (same j s)

  -- The step lemma: the sum over the first m columns of the row combined from two, whatever the columns are worth.
  pub combined_sum : (v : ℕ → ℕ) (m : ℕ) → s < m → m ≤ length r
      → sum_to (λ j. cell (combined s d p r) j * v j) m + (cell r s * d + cell r s * cell p s) * v s
      ≡ d * sum_to (λ j. cell r j * v j) m + cell r s * sum_to (λ j. cell p j * v j) m
  combined_sum v m h l =
      let f : ℕ → ℕ = λ j. d * (cell r j * v j) + cell r s * (cell p j * v j) in
      let a : sum_to (λ j. cell (combined s d p r) j * v j) m ≡ sum_to (λ j. choose (eqb j s) 0 (f j)) m =
      sum_ext _ _ m (λ j k. point v j (omega arith)) in
      let b : sum_to f m ≡ d * sum_to (λ j. cell r j * v j) m + cell r s * sum_to (λ j. cell p j * v j) m =
      sum_add (λ j. d * (cell r j * v j)) (λ j. cell r s * (cell p j * v j)) m
      ∙ rw (sum_scale d (λ j. cell r j * v j) m, sum_scale (cell r s) (λ j. cell p j * v j) m) in
      together d (cell r s) (cell p s) (v s) _ _ _ a (sum_hole f m s h ∙ b)

-- The step with d the D of s: it keeps what both rows say.
module _ (n s : ℕ) (p r : Row) (inside : s < n) (wide : length r ≡ n + 4) where
  abbrev step : Row
  step = combined s (outside n s p) p r

  total_split : total n p ≡ outside n s p + cell p s
  total_split = omega (arith, sum_term (cell p) (n + 3) s (omega arith))

  pub combined_total : total n step ≡ total n r * outside n s p
  combined_total =
      combine_total (total n step) (total n r) (total n p) (outside n s p) (cell r s) (cell p s) total_split
      (rw (ones n step, ones n r, ones n p) at (combined_sum s (outside n s p) p r (λ _. 1) (n + 3) (omega arith) (omega arith)))

  pub combined_most : (x : ℕ) (v : ℕ → ℕ) → AtMostRow n r x v → AtMostRow n p (v s) v → AtMostRow n step x v
  combined_most x v h k =
      rw combined_total
      (combine_most _ _ _ _ _ (cell p s) (v s) x (total n r) (total n p) total_split
      (combined_sum s (outside n s p) p r v (n + 4) (omega arith) (omega arith)) h k)

  pub combined_least : (x : ℕ) (v : ℕ → ℕ) → AtLeastRow n r x v → AtLeastRow n p (v s) v → AtLeastRow n step x v
  combined_least x v h k =
      rw combined_total
      (combine_least _ _ _ _ _ (cell p s) (v s) x (total n r) (total n p) total_split
      (combined_sum s (outside n s p) p r v (n + 4) (omega arith) (omega arith)) h k)
