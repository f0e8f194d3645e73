-- The columns of the row that a packed row stands for.
use Prim.Native.Nat.{ℕ, ◌+◌, ◌≤◌, ◌<◌}
use mathlib.Core.Path.{◌≡◌, refl, sym, ◌∙◌}
use mathlib.Core.Logic.{⊎_elim}
use mathlib.Core.List.{List}
use native.Mathlib.Omega.{arith}
use lib.Dec.{eqb, ltb}
use lib.ListN.{length, get_or}
use borrow.Author.Tests.{eq-eqb, ne_eqb, lt-ltb, le-ltb}
use Rattle.meaning.specs.Number.{choose, tab_from}
use Rattle.meaning.specs.Row.{cell, width, goal_column, trap_column, unknown_column, reward_column}
use Rattle.theory.specs.Numbers.Sum.{same, below}
use Rattle.theory.specs.Numbers.Tab.{tab_at, tab_length, tab_of}
use Rattle.elimination.specs.Packed.{reward_at, goal_at, trap_at, unknown_at, weights_at, weight_of, unpacked}

pub unpacked_length : (n : ℕ) (p : List ℕ) → length (unpacked n p) ≡ width n
unfolding unpacked
unpacked_length n p = tab_length 0 (width n) _

column : ℕ → List ℕ → ℕ → ℕ
column n p j =
    choose (ltb j n) (weight_of p j)
    (choose (eqb j (goal_column n)) (get_or p goal_at 0)
    (choose (eqb j (trap_column n)) (get_or p trap_at 0)
    (choose (eqb j (unknown_column n)) (get_or p unknown_at 0) (get_or p reward_at 0))))

column_at : (n : ℕ) (p : List ℕ) (j : ℕ) → j < width n → cell (unpacked n p) j ≡ column n p j
unfolding unpacked column
column_at n p j h = tab_at (width n) (column n p) 0 j h

pub unpacked_weight : (n : ℕ) (p : List ℕ) (j : ℕ) → j < n → cell (unpacked n p) j ≡ weight_of p j
unfolding column
unpacked_weight n p j h = column_at n p j (omega arith) ∙ rw (lt-ltb j n h)

-- Where the number of a column that is no state stands.
pub record Stands (n j q : ℕ) : Type 0 where
  pub some : 0 < q
  pub front : q < weights_at
  pub past : n ≤ j
  pub inside : j < width n
  pub here : (p : List ℕ) → cell (unpacked n p) j ≡ get_or p q 0

module _ (n : ℕ) where
  pub goal_stands : Stands n (goal_column n) goal_at
  unfolding column
  goal_stands =
      record {
        some = omega arith;
        front = omega arith;
        past = omega arith;
        inside = omega arith;
        here = λ p. column_at n p n (omega arith) ∙ rw (le-ltb n n (omega arith), eq-eqb n n refl);
      }

  pub trap_stands : Stands n (trap_column n) trap_at
  unfolding column
  trap_stands =
      record {
        some = omega arith;
        front = omega arith;
        past = omega arith;
        inside = omega arith;
        here = λ p. column_at n p (n + 1) (omega arith) ∙ rw (le-ltb (n + 1) n (omega arith), ne_eqb (n + 1) n (λ e. omega arith), eq-eqb (n + 1) (n + 1) refl);
      }

  pub unknown_stands : Stands n (unknown_column n) unknown_at
  unfolding column
  unknown_stands =
      record {
        some = omega arith;
        front = omega arith;
        past = omega arith;
        inside = omega arith;
        here = λ p.
            column_at n p (n + 2) (omega arith)
            ∙ rw (le-ltb (n + 2) n (omega arith), ne_eqb (n + 2) n (λ e. omega arith), ne_eqb (n + 2) (n + 1) (λ e. omega arith), eq-eqb (n + 2) (n + 2) refl);
      }

  pub reward_stands : Stands n (reward_column n) reward_at
  unfolding column
  reward_stands =
      record {
        some = omega arith;
        front = omega arith;
        past = omega arith;
        inside = omega arith;
        here = λ p.
            column_at n p (n + 3) (omega arith)
            ∙ rw (
              le-ltb (n + 3) n (omega arith),
              ne_eqb (n + 3) n (λ e. omega arith),
              ne_eqb (n + 3) (n + 1) (λ e. omega arith),
              ne_eqb (n + 3) (n + 2) (λ e. omega arith),
            );
      }

  -- A column is a state, Goal, Trap, Unknown or Reward.
  pub by_column {ℓ} : {P : ℕ → Type ℓ} → ((j : ℕ) → j < n → P j) → P (goal_column n) → P (trap_column n) → P (unknown_column n) → P (reward_column n) → (j : ℕ) → j < width n → P j
  by_column {P = P} state goal trap unknown paid j h =
      ⊎_elim
      (λ (l : j < n). state j l)
      (λ (l : n ≤ j).
      ⊎_elim
      (λ (e : j ≡ n). rw e goal)
      (λ (d1 : j ≡ n → ⊥).
      ⊎_elim
      (λ (e : j ≡ n + 1). rw e trap)
      (λ (d2 : j ≡ n + 1 → ⊥).
      ⊎_elim
      (λ (e : j ≡ n + 2). rw e unknown)
      (λ (d3 : j ≡ n + 2 → ⊥). let e : j ≡ n + 3 = omega arith in rw e paid)
      (same j (n + 2)))
      (same j (n + 1)))
      (same j n))
      (below j n)

  -- So it is a state, or its number stands before the weights.
  pub each_column {ℓ} : {P : ℕ → Type ℓ} → ((j : ℕ) → j < n → P j) → ((j q : ℕ) → Stands n j q → P j) → (j : ℕ) → j < width n → P j
  each_column {P = P} state front =
      by_column {P = P} state (front (goal_column n) goal_at goal_stands) (front (trap_column n) trap_at trap_stands)
      (front (unknown_column n) unknown_at unknown_stands)
      (front (reward_column n) reward_at reward_stands)

  -- And each such number stands for a column.
  pub each_front {ℓ} : {P : ℕ → Type ℓ} → ((j q : ℕ) → Stands n j q → P q) → (q : ℕ) → 0 < q → q < weights_at → P q
  each_front {P = P} f q a b =
      ⊎_elim
      (λ (e : q ≡ 1). rw e (f (n + 3) 1 reward_stands))
      (λ (d1 : q ≡ 1 → ⊥).
      ⊎_elim
      (λ (e : q ≡ 2). rw e (f n 2 goal_stands))
      (λ (d2 : q ≡ 2 → ⊥).
      ⊎_elim
      (λ (e : q ≡ 3). rw e (f (n + 1) 3 trap_stands))
      (λ (d3 : q ≡ 3 → ⊥). let e : q ≡ 4 = omega arith in rw e (f (n + 2) 4 unknown_stands))
      (same q 3))
      (same q 2))
      (same q 1)

-- A row is that of a packed one where its columns are.
pub unpacked_is : (n : ℕ) (p : List ℕ) (f : ℕ → ℕ) → ((j : ℕ) → j < n → weight_of p j ≡ f j) → ((j q : ℕ) → Stands n j q → get_or p q 0 ≡ f j)
    → unpacked n p ≡ tab_from 0 (width n) f
unpacked_is n p f w g =
    tab_of 0 (width n) f (unpacked n p) (unpacked_length n p)
    (each_column n (λ j h. unpacked_weight n p j h ∙ w j h) (λ j q s. s.here p ∙ g j q s))

-- Two packed rows with the same numbers stand for one row.
pub unpacked_same : (n : ℕ) (p v : List ℕ) → ((j : ℕ) → j < n → weight_of v j ≡ weight_of p j) → ((q : ℕ) → 0 < q → q < weights_at → get_or v q 0 ≡ get_or p q 0)
    → unpacked n v ≡ unpacked n p
unpacked_same n p v w f =
    let r = unpacked n p in
    unpacked_is n v (cell r) (λ j h. w j h ∙ sym (unpacked_weight n p j h)) (λ j q s. f q s.some s.front ∙ sym (s.here p))
    ∙ sym (tab_of 0 (width n) (cell r) r (unpacked_length n p) (λ j h. refl))
