-- The first table of a near chance and one removal: which rows stay, which are made anew, and how many.
use Rattle.std.specs.Prelude.{ℕ, ◌+◌, ◌*◌, ◌≤◌, ◌<◌, ◌≡◌, Bool, true, false, length, eqb}
use Rattle.std.proofs.Common.{sym, ◌∙◌, ⊎_elim, arith, eq-eqb, ne_eqb, lt-ltb, le-ltb}
use mathlib.Core.List.{[]}
use Rattle.meaning.specs.Number.{sum_to, only, choose, bit}
use Rattle.meaning.specs.Chain.{Chain}
use Rattle.meaning.specs.Row.{Row, cell}
use Rattle.meaning.specs.Step.{Table, row, Sets, given, no_row, goes}
use Rattle.meaning.specs.Near.{made_anew, blended, lowered, near_first, near_removed}
use Rattle.theory.specs.Numbers.Sum.{same, sum_ext, sum_scale}
use Rattle.theory.specs.Numbers.Tab.{tab_at, tab_length}

pub no_cell : (n j : ℕ) → j < n + 4 → cell (no_row n) j ≡ 0
unfolding no_row
no_cell n j h = tab_at (n + 4) (λ _. 0) 0 j h

pub no_length : (n : ℕ) → length (no_row n) ≡ n + 4
unfolding no_row
no_length n = tab_length 0 (n + 4) _

-- The first table.
module _ (c : Chain) (k : Sets) where
  pub first_is : (i : ℕ) → i < c.states → row (near_first c k) i ≡ choose (eqb (bit k.live i) 1) (given c k (λ _. 0) 0 i) (no_row c.states)
  unfolding near_first
  first_is i h = tab_at c.states _ [] i h

  pub first_by : (P : Row → Type 0) (i : ℕ) → i < c.states → (bit k.live i ≡ 1 → P (given c k (λ _. 0) 0 i)) → P (no_row c.states)
      → P (row (near_first c k) i)
  first_by P i h y z =
      rw (first_is i h)
      (⊎_elim
      (λ (l : bit k.live i ≡ 1). rw (eq-eqb (bit k.live i) 1 l) (y l))
      (λ (l : bit k.live i ≡ 1 → ⊥). rw (ne_eqb (bit k.live i) 1 l) z)
      (same (bit k.live i) 1))

-- The removal of s.
module _ (n s : ℕ) (t : Table) where
  abbrev pub new : ℕ → Row
  new i = lowered (blended n s (row t s) (row t i))

  removed_is : (i : ℕ) → i < n → row (near_removed n s t) i ≡ choose (eqb i s) (no_row n) (choose (made_anew s i (row t i)) (new i) (row t i))
  unfolding near_removed
  removed_is i h = tab_at n _ [] i h

  pub anew_some : (i : ℕ) → (i ≡ s → ⊥) → 0 < cell (row t i) s → made_anew s i (row t i) ≡ true
  anew_some i d o = rw (ne_eqb i s d, lt-ltb 0 (cell (row t i) s) o)

  pub anew_none : (i : ℕ) → (i ≡ s → ⊥) → cell (row t i) s ≡ 0 → made_anew s i (row t i) ≡ false
  anew_none i d o = rw (ne_eqb i s d, le-ltb 0 (cell (row t i) s) (omega arith))

  anew_own : (i : ℕ) → i ≡ s → made_anew s i (row t i) ≡ false
  anew_own i d = rw (eq-eqb i s d)

  -- A row that is made anew, and one that is not.
  pub changed : (i : ℕ) → made_anew s i (row t i) ≡ true → (i ≡ s → ⊥) × (0 < cell (row t i) s)
  changed i e =
      ⊎_elim
      (λ (d : i ≡ s). absurd (let f = anew_own i d in let z : ◌≡◌ {A = ℕ} 0 1 = cc in omega arith))
      (λ (d : i ≡ s → ⊥).
      ⊎_elim
      (λ (o : cell (row t i) s ≡ 0). absurd (let f = anew_none i d o in let z : ◌≡◌ {A = ℕ} 0 1 = cc in omega arith))
      (λ (o : cell (row t i) s ≡ 0 → ⊥). (d, omega arith))
      (same (cell (row t i) s) 0))
      (same i s)

  pub new_is : (i : ℕ) → i < n → made_anew s i (row t i) ≡ true → row (near_removed n s t) i ≡ new i
  new_is i h e = removed_is i h ∙ rw (ne_eqb i s (changed i e).0, lt-ltb 0 (cell (row t i) s) (changed i e).1)

  pub old_is : (i : ℕ) → i < n → (i ≡ s → ⊥) → made_anew s i (row t i) ≡ false → row (near_removed n s t) i ≡ row t i
  old_is i h d e =
      ⊎_elim
      (λ (o : cell (row t i) s ≡ 0). removed_is i h ∙ rw (ne_eqb i s d, le-ltb 0 (cell (row t i) s) (omega arith)))
      (λ (o : cell (row t i) s ≡ 0 → ⊥).
      absurd (let f = anew_some i d (omega arith) in let z : ◌≡◌ {A = ℕ} 0 1 = cc in omega arith))
      (same (cell (row t i) s) 0)

  pub removes : (P : Row → Type 0) (i : ℕ) → i < n → P (no_row n) → ((i ≡ s → ⊥) → cell (row t i) s ≡ 0 → P (row t i))
      → ((i ≡ s → ⊥) → 0 < cell (row t i) s → P (new i)) → P (row (near_removed n s t) i)
  removes P i h x y z =
      ⊎_elim
      (λ (d : i ≡ s). rw (removed_is i h, eq-eqb i s d) x)
      (λ (d : i ≡ s → ⊥).
      ⊎_elim
      (λ (o : cell (row t i) s ≡ 0). rw (old_is i h d (anew_none i d o)) (y d o))
      (λ (o : cell (row t i) s ≡ 0 → ⊥).
      let l : 0 < cell (row t i) s = omega arith in
      rw (new_is i h (anew_some i d l)) (z d l))
      (same (cell (row t i) s) 0))
      (same i s)

-- How many rows are made anew in a step.
abbrev pub anew : ℕ → ℕ → Table → ℕ
anew n s t = sum_to (λ i. only (made_anew s i (row t i)) 1) n

only_times : (b : Bool) (P : ℕ) → P * only b 1 ≡ only b P
only_times true P = omega arith
only_times false P = omega arith

pub anew_parts : (n s : ℕ) (t : Table) (P : ℕ) → sum_to (λ i. only (made_anew s i (row t i)) P) n ≡ P * anew n s t
anew_parts n s t P =
    sum_ext _ (λ i. P * only (made_anew s i (row t i)) 1) n (λ i h. sym (only_times (made_anew s i (row t i)) P))
    ∙ sum_scale P (λ i. only (made_anew s i (row t i)) 1) n

pub only_few : (b : Bool) (P : ℕ) → only b P ≤ P
only_few true P = omega arith
only_few false P = omega arith

-- A state that is removed at its turn is live.
pub goes_live : (start live s : ℕ) → goes start live s ≡ true → bit live s ≡ 1
goes_live start live s e =
    ⊎_elim
    (λ (l : bit live s ≡ 1). l)
    (λ (l : bit live s ≡ 1 → ⊥). absurd (none (eqb s start) (rw (ne_eqb (bit live s) 1 l) at e)))
    (same (bit live s) 1)
  where
    none : (b : Bool) → choose b false false ≡ true → ⊥
    none true e = let z : ◌≡◌ {A = ℕ} 0 1 = cc in omega arith
    none false e = let z : ◌≡◌ {A = ℕ} 0 1 = cc in omega arith
