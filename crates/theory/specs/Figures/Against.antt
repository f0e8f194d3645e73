-- The complement of a system: with what else leaves each state as its weight to Goal, its values are 1 minus the old ones.
use Rattle.std.specs.Prelude.{ℕ, zero, suc, ◌+◌, ◌-◌, ◌*◌, ◌≤◌, ◌<◌, ◌≡◌}
use Rattle.std.proofs.Common.{ap, arith}
use Rattle.meaning.specs.Number.{sum_to}
use Rattle.theory.specs.Figures.System.{System, total, Solves, LeadsOut}
use Rattle.theory.specs.Figures.Drift.{leads_too}

abbrev pub against : System → (ℕ → ℕ) → System
against s g = record { a = s.a; out = s.out; g = g }

wanting_term : (w x d : ℕ) → x ≤ d → w * (d - x) + w * x ≡ w * d
wanting_term w x d h = let y = d - x in let e : y + x ≡ d = omega arith in omega (arith, ap (λ z. w * z) e)

wanting_sum : (w x : ℕ → ℕ) (d n : ℕ) → ((j : ℕ) → j < n → x j ≤ d)
    → sum_to (λ j. w j * (d - x j)) n + sum_to (λ j. w j * x j) n ≡ sum_to w n * d
unfolding sum_to
wanting_sum w x d zero h = omega arith
wanting_sum w x d (suc n) h =
    omega (arith, wanting_sum w x d n (λ j l. h j (omega arith)), wanting_term (w n) (x n) d (h n (omega arith)))

wanting_row : (T W O g g' X Y x y d : ℕ) → T ≡ W + O → g + g' ≡ O → T * y + T * x ≡ T * d → Y + X ≡ W * d → T * x ≡ X + g * d
    → T * y ≡ Y + g' * d
wanting_row T W O g g' X Y x y d t o a b c = omega (arith, ap (λ z. z * d) t, ap (λ z. z * d) o)

module _ (s : System) (n : ℕ) (g : ℕ → ℕ) where
  pub against_leads : {i : ℕ} → i < n → LeadsOut s n i → LeadsOut (against s g) n i
  against_leads = leads_too s (against s g) n (λ i l. (λ o. o, λ j h o. o))

  pub against_solves : (d : ℕ) (x : ℕ → ℕ) → ((i : ℕ) → i < n → s.g i + g i ≡ s.out i) → ((i : ℕ) → i < n → x i ≤ d) → Solves s n d x
      → Solves (against s g) n d (λ i. d - x i)
  against_solves d x parts most S =
      record {
        whole = S.whole;
        holds = λ i h.
            wanting_row (total s n i) (sum_to (s.a i) n) (s.out i) (s.g i) (g i) _ _ (x i) (d - x i) d (omega arith) (parts i h)
            (wanting_term (total s n i) (x i) d (most i h)) (wanting_sum (s.a i) x d n most) (S.holds i h);
      }
