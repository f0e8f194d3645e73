-- Rounding a row keeps the two bounds, and leaves some of its weight in Unknown.
use Rattle.std.specs.Prelude.{ℕ, ◌+◌, ◌*◌, ◌-◌, ◌^◌, ◌≤◌, ◌<◌, ◌≡◌, length}
use Rattle.std.specs.Int.{◌∣◌}
use Rattle.std.proofs.Common.{◌∙◌, ⊎_elim, arith, mul-le-mul_right}
use Rattle.std.proofs.Math.Nat.{le_of_mul-le-mul_left, mul-div-le, dvd-mul_right, dvd-zero, eq-one_of_dvd-one}
use Rattle.std.proofs.Math.ListN.{length-set}
use Rattle.std.proofs.Math.Seq.{get_or-set_same, get_or-set_other}
use Rattle.meaning.specs.Number.{sum_to}
use Rattle.meaning.specs.Row.{Row, cell, total, reward, gcd_of, up_to, over, rounded_by}
use Rattle.theory.specs.Numbers.Sum.{same, below, sum_ext, sum_le, sum_scale, sum_next, sum_tight}
use Rattle.theory.specs.Rows.Terms.{gcd_most, over_cell, over_length}
use Rattle.theory.specs.Rows.Relation.{worth, AtLeastRow}
use Rattle.theory.specs.Numbers.Shift.{pow_whole, pow_two, up_above}

-- A row divided by 2 ^ k.
module _ (k n : ℕ) (r : Row) (wide : length r ≡ n + 4) where
  abbrev K : ℕ
  K = 2 ^ k

  abbrev U : ℕ
  U = up_to (total n r) k

  abbrev floors : ℕ
  floors = sum_to (cell (over K r)) (n + 2)

  abbrev made : Row
  made = rounded_by k n r

  total_under : total n r ≤ K * U
  total_under = up_above (total n r) K (pow_whole k)

  floor_under : (j : ℕ) → K * cell (over K r) j ≤ cell r j
  floor_under j = rw (over_cell K r j) (mul-div-le (cell r j) K)

  floors_under : K * floors ≤ sum_to (cell r) (n + 2)
  floors_under = rw (← sum_scale K (cell (over K r)) (n + 2)) (sum_le _ _ (n + 2) (λ j h. floor_under j))

  floors_fit : floors ≤ U
  floors_fit =
      le_of_mul-le-mul_left
      {k = K} (omega (arith, floors_under, total_under, sum_next (cell r) (n + 2) (n + 3) (omega arith))) (pow_whole k)

  over_wide : length (over K r) ≡ n + 4
  over_wide = over_length K r ∙ wide

  pub rounded_length : length made ≡ n + 4
  unfolding rounded_by
  rounded_length = length-set (over K r) (n + 2) _ ∙ over_wide

  pub rounded_cell : (j : ℕ) → (j ≡ n + 2 → ⊥) → cell made j ≡ cell (over K r) j
  unfolding rounded_by
  rounded_cell j d = get_or-set_other (over K r) (n + 2) j _ 0 d

  pub rounded_unknown : cell made (n + 2) ≡ U - floors
  unfolding rounded_by
  rounded_unknown = get_or-set_same (over K r) (n + 2) _ 0 (omega (arith, over_wide))

  pub rounded_total : total n made ≡ U
  rounded_total =
      let a : sum_to (cell made) (n + 2) ≡ floors = sum_ext _ _ (n + 2) (λ j h. rounded_cell j (omega arith)) in
      omega (arith, a, rounded_unknown, floors_fit, sum_next (cell made) (n + 2) (n + 3) (omega arith))

  smaller : (v : ℕ → ℕ) → v (n + 2) ≡ 0 → (j : ℕ) → K * (cell made j * v j) ≤ cell r j * v j
  smaller v u j =
      ⊎_elim
      (λ (e : j ≡ n + 2). rw (e, u) (omega arith))
      (λ (d : j ≡ n + 2 → ⊥). rw (rounded_cell j d) (omega (arith, mul-le-mul_right (v j) (floor_under j))))
      (same j (n + 2))

  pub rounded_least : (x : ℕ) (v : ℕ → ℕ) → v (n + 2) ≡ 0 → AtLeastRow n r x v → AtLeastRow n made x v
  rounded_least x v u h =
      let a : sum_to (λ j. K * (cell made j * v j)) (n + 4) ≤ worth n r v = sum_le _ _ (n + 4) (λ j l. smaller v u j) in
      le_of_mul-le-mul_left
      {k = K}
      (rw rounded_total
      (omega (arith, a, sum_scale K (λ j. cell made j * v j) (n + 4), mul-le-mul_right x total_under)))
      (pow_whole k)

  -- Where nothing is Unknown afterwards, 2 ^ k divides the row.
  all_divided : reward n r ≡ 0 → cell made (n + 2) ≡ 0 → (j : ℕ) → j < n + 4 → K ∣ cell r j
  all_divided z e j h =
      let s = sum_next (cell r) (n + 2) (n + 3) (omega arith) in
      let f = sum_scale K (cell (over K r)) (n + 2) in
      let same' : U ≡ floors = omega (arith, e, rounded_unknown, floors_fit) in
      let most : total n r ≤ K * floors = rw (← same') total_under in
      ⊎_elim
      (λ (b : j < n + 2).
      rw (← sum_tight (λ i. K * cell (over K r) i) (cell r) (n + 2) (λ i _. floor_under i) (omega arith) j b)
      (dvd-mul_right K (cell (over K r) j)))
      (λ (b : n + 2 ≤ j).
      ⊎_elim
      (λ (q : j ≡ n + 2).
      rw (q, (let y : cell r (n + 2) ≡ 0 = omega (arith, floors_under) in y)) (dvd-zero K))
      (λ (d : j ≡ n + 2 → ⊥).
      let q : j ≡ n + 3 = omega arith in
      rw (q, z) (dvd-zero K))
      (same j (n + 2)))
      (below j (n + 2))

  -- A row in lowest terms that is rounded has weight in Unknown.
  pub rounded_left : 0 < k → gcd_of r ≡ 1 → reward n r ≡ 0 → 0 < cell made (n + 2)
  rounded_left h g z =
      ⊎_elim
      (λ (e : cell made (n + 2) ≡ 0).
      absurd
      (let d : K ∣ 1 = rw g at (gcd_most r K (λ j i. all_divided z e j (omega arith))) in
      let one : K ≡ 1 = eq-one_of_dvd-one d in
      omega (arith, one, pow_two k h)))
      (λ (d : cell made (n + 2) ≡ 0 → ⊥). omega arith)
      (same (cell made (n + 2)) 0)
