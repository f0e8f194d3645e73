-- The row of a state that is left alone: what it says of the state's value.
use Rattle.std.specs.Prelude.{ℕ, ◌+◌, ◌*◌, ◌≤◌, ◌<◌, ◌≡◌}
use Rattle.std.proofs.Common.{ap, ◌∙◌, arith}
use Rattle.meaning.specs.Row.{Row, cell, total}
use Rattle.meaning.specs.Step.{outside}
use Rattle.theory.specs.Numbers.Sum.{sum_next, sum_alone}
use Rattle.theory.specs.Rows.Relation.{worth, AtMostRow, AtLeastRow}
use Rattle.theory.specs.Rows.Columns.{Columns}

-- A row whose weight goes to its own state s, and to no other state.
module _ (n s : ℕ) (r : Row) (here : s < n) (alone : (j : ℕ) → j < n → (j ≡ s → ⊥) → cell r j ≡ 0) where
  lone_total : total n r ≡ cell r s + cell r n + cell r (n + 1) + cell r (n + 2)
  lone_total =
      omega (
        arith,
        sum_alone (cell r) n s here alone,
        sum_next (cell r) n (n + 1) (omega arith),
        sum_next (cell r) (n + 1) (n + 2) (omega arith),
        sum_next (cell r) (n + 2) (n + 3) (omega arith),
      )

  pub lone_outside : outside n s r ≡ cell r n + cell r (n + 1) + cell r (n + 2)
  lone_outside = omega (arith, lone_total)

  lone_worth : (v : ℕ → ℕ)
      → worth n r v ≡ cell r s * v s + cell r n * v n + cell r (n + 1) * v (n + 1) + cell r (n + 2) * v (n + 2) + cell r (n + 3) * v (n + 3)
  lone_worth v =
      let f : ℕ → ℕ = λ j. cell r j * v j in
      omega (
        arith,
        sum_alone f n s here (λ j h d. rw (alone j h d) (omega arith)),
        sum_next f n (n + 1) (omega arith),
        sum_next f (n + 1) (n + 2) (omega arith),
        sum_next f (n + 2) (n + 3) (omega arith),
        sum_next f (n + 3) (n + 4) (omega arith),
      )

  module _ (x : ℕ → ℕ) (g t u w : ℕ) (v : ℕ → ℕ) (are : Columns n x g t u w v) where
    lone_sum : worth n r v ≡ cell r s * x s + cell r n * g + cell r (n + 1) * t + cell r (n + 2) * u + cell r (n + 3) * w
    lone_sum = lone_worth v ∙ rw (are.state s here, are.goal, are.trap, are.unknown, are.paid)

    pub lone_least : AtLeastRow n r (v s) v
        → cell r n * g + cell r (n + 1) * t + cell r (n + 2) * u + cell r (n + 3) * w ≤ outside n s r * x s
    lone_least h = rw lone_outside (omega (arith, lone_sum, ap (λ z. z * x s) lone_total, rw (are.state s here) at h))

    pub lone_most : AtMostRow n r (v s) v
        → outside n s r * x s ≤ cell r n * g + cell r (n + 1) * t + cell r (n + 2) * u + cell r (n + 3) * w
    lone_most h = rw lone_outside (omega (arith, lone_sum, ap (λ z. z * x s) lone_total, rw (are.state s here) at h))
