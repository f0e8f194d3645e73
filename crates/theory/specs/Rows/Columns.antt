-- What the columns of a row are worth.
use Rattle.std.specs.Prelude.{ℕ, ◌+◌, ◌<◌, ◌≡◌, refl, eqb, ltb}
use Rattle.std.proofs.Common.{arith, eq-eqb, ne_eqb, lt-ltb, le-ltb}
use Rattle.meaning.specs.Number.{choose}

-- What the columns are worth: the states, then Goal, Trap, Unknown and Reward.
pub record Columns (n : ℕ) (x : ℕ → ℕ) (g t u w : ℕ) (v : ℕ → ℕ) : Type 0 where
  pub state : (j : ℕ) → j < n → v j ≡ x j
  pub goal : v n ≡ g
  pub trap : v (n + 1) ≡ t
  pub unknown : v (n + 2) ≡ u
  pub paid : v (n + 3) ≡ w

pub columns : ℕ → (ℕ → ℕ) → ℕ → ℕ → ℕ → ℕ → ℕ → ℕ
columns n x g t u w j =
    choose (ltb j n) (x j) (choose (eqb j n) g (choose (eqb j (n + 1)) t (choose (eqb j (n + 2)) u w)))

pub columns_are : (n : ℕ) (x : ℕ → ℕ) (g t u w : ℕ) → Columns n x g t u w (columns n x g t u w)
unfolding columns
columns_are n x g t u w =
    record {
      state = λ j h. rw (lt-ltb j n h);
      goal = rw (le-ltb n n (omega arith), eq-eqb n n refl);
      trap = rw (le-ltb (n + 1) n (omega arith), ne_eqb (n + 1) n (omega arith), eq-eqb (n + 1) (n + 1) refl);
      unknown =
          rw (le-ltb (n + 2) n (omega arith), ne_eqb (n + 2) n (omega arith), ne_eqb (n + 2) (n + 1) (omega arith), eq-eqb (n + 2) (n + 2) refl);
      paid =
          rw (le-ltb (n + 3) n (omega arith), ne_eqb (n + 3) n (omega arith), ne_eqb (n + 3) (n + 1) (omega arith), ne_eqb (n + 3) (n + 2) (omega arith));
    }
