-- The chance to miss, beside the chance: what a row says of the one it says of the other.
use Rattle.std.specs.Prelude.{ℕ, ◌+◌, ◌*◌, ◌-◌, ◌≤◌, ◌<◌, ◌≡◌}
use Rattle.std.proofs.Common.{sym, ap, ◌∙◌, ⊎_elim, arith}
use Rattle.meaning.specs.Number.{sum_to}
use Rattle.meaning.specs.Row.{Row, cell, total}
use Rattle.theory.specs.Numbers.Sum.{same, below, sum_ext, sum_add, sum_scale, sum_next}
use Rattle.theory.specs.Rows.Relation.{worth, AtMostRow, AtLeastRow}
use Rattle.theory.specs.Rows.Columns.{Columns}

-- Values and what is left of them to d.
pub record Flips (n d : ℕ) (v w : ℕ → ℕ) : Type 0 where
  pub both : (j : ℕ) → j < n + 3 → v j + w j ≡ d
  pub unpaid : v (n + 3) ≡ 0
  pub unpaid' : w (n + 3) ≡ 0

module _ (n : ℕ) (r : Row) (d : ℕ) (v w : ℕ → ℕ) (f : Flips n d v w) where
  flip_worth : worth n r v + worth n r w ≡ total n r * d
  flip_worth =
      let a : worth n r v + worth n r w ≡ sum_to (λ j. cell r j * (v j + w j)) (n + 4) =
      sym (sum_add (λ j. cell r j * v j) (λ j. cell r j * w j) (n + 4)) ∙ sum_ext _ _ (n + 4) (λ j h. omega arith) in
      let b : sum_to (λ j. cell r j * (v j + w j)) (n + 3) ≡ sum_to (λ j. d * cell r j) (n + 3) =
      sum_ext _ _ (n + 3) (λ j h. rw (f.both j h) (omega arith)) in
      let c : cell r (n + 3) * (v (n + 3) + w (n + 3)) ≡ cell r (n + 3) * 0 = rw (f.unpaid, f.unpaid') in
      omega (arith, a, b, c, sum_next (λ j. cell r j * (v j + w j)) (n + 3) (n + 4) (omega arith), sum_scale d (cell r) (n + 3))

  pub flip_most : (x y : ℕ) → x + y ≡ d → AtMostRow n r x v → AtLeastRow n r y w
  flip_most x y e h = omega (arith, flip_worth, ap (λ k. total n r * k) e)

-- The chance to miss, beside the chance.
pub flipped : (n d : ℕ) (x v w : ℕ → ℕ) → ((i : ℕ) → i < n → x i ≤ d) → Columns n x d 0 d 0 v → Columns n (λ j. d - x j) 0 d 0 0 w → Flips n d v w
flipped n d x v w l a b =
    record {
      both = λ j h.
          ⊎_elim
          (λ (k : j < n). omega (arith, a.state j k, b.state j k, l j k))
          (λ (k : n ≤ j).
          ⊎_elim
          (λ (e : j ≡ n). rw e (omega (arith, a.goal, b.goal)))
          (λ (p : j ≡ n → ⊥).
          ⊎_elim
          (λ (e : j ≡ n + 1). rw e (omega (arith, a.trap, b.trap)))
          (λ (q : j ≡ n + 1 → ⊥).
          let e : j ≡ n + 2 = omega arith in
          rw e (omega (arith, a.unknown, b.unknown)))
          (same j (n + 1)))
          (same j n))
          (below j n);
      unpaid = a.paid;
      unpaid' = b.paid;
    }
