-- The goals, state by state; and an edge that is set in a table.
use Prim.Native.Nat.{ℕ, suc, ◌+◌, ◌*◌, ◌/◌, ◌%◌, ◌^◌, ◌<◌}
use native.Mathlib.Omega.{arith}
use native.Mathlib.Nat.{pow-succ', div-eq_of_lt, one-mul}
use mathlib.Core.Path.{◌≡◌, refl, sym, ap, ◌∙◌}
use mathlib.Core.Logic.{⊎_elim}
use mathlib.Core.List.{List}
use lib.ListN.{length, get_or}
use lib.Dec.{eqb}
use borrow.Author.Tests.{lt-ltb, eq-eqb, ne_eqb}
use Rattle.meaning.specs.Number.{choose, sum_to, bit}
use Rattle.meaning.specs.Chain.{edge_size, edge_count}
use Rattle.theory.specs.Numbers.Sum.{same, sum_ext, sum_suc}
use Rattle.theory.specs.Numbers.Tab.{tab_at, tab_length}
use Rattle.theory.specs.Numbers.Digits.{digits_one, bits_number}
use Rattle.chain.specs.Edge.{placed}

module _ (g i : ℕ) (small : g < 2 ^ i) where
  -- A state that has not come is no goal.
  pub unset : bit g i ≡ 0
  unset = ap (λ z. z % 2) (div-eq_of_lt small)

  below_next : g + 2 ^ i < 2 ^ suc i
  below_next = omega (arith, pow-succ' 2 i)

  digit : ℕ → ℕ
  digit j = choose (eqb j i) 1 (bit g j)

  -- State i is put into the set.
  set_digits : (j : ℕ) → j < suc i → bit (g + 2 ^ i) j ≡ digit j
  unfolding digit
  set_digits =
      digits_one 2 (bit (g + 2 ^ i)) digit (suc i) (λ j h. omega arith)
      (λ j h.
      ⊎_elim
      (λ (e : j ≡ i). rw (eq-eqb j i e) (omega arith))
      (λ (n : j ≡ i → ⊥). rw (ne_eqb j i n) (omega arith))
      (same j i))
      (bits_number (suc i) (g + 2 ^ i) below_next ∙ sym total)
    where
      total : sum_to (λ j. digit j * 2 ^ j) (suc i) ≡ g + 2 ^ i
      total =
          let first : sum_to (λ j. digit j * 2 ^ j) i ≡ g =
          sum_ext _ (λ j. bit g j * 2 ^ j) i (λ j h. ap (λ z. z * 2 ^ j) (rw (ne_eqb j i (λ e. omega arith)))) ∙ bits_number i g small in
          let last : digit i * 2 ^ i ≡ 2 ^ i = ap (λ z. z * 2 ^ i) (rw (eq-eqb i i refl)) ∙ one-mul (2 ^ i) in
          sum_suc _ i ∙ omega arith

  pub set_other : (j : ℕ) → j < i → bit (g + 2 ^ i) j ≡ bit g j
  unfolding digit
  set_other j h = set_digits j (omega arith) ∙ rw (ne_eqb j i (λ e. omega arith))

  pub set_same : bit (g + 2 ^ i) i ≡ 1
  unfolding digit
  set_same = set_digits i (omega arith) ∙ rw (eq-eqb i i refl)

-- A cell of a table in which an edge is set.
pub placed_length : (es : List ℕ) (k : ℕ) (ns : List ℕ) → k < edge_count es → length (placed es k ns) ≡ length es
unfolding placed
placed_length es k ns h = rw (lt-ltb k (edge_count es) h) (tab_length 0 (length es) _)

pub placed_cell : (es : List ℕ) (k : ℕ) (ns : List ℕ) → k < edge_count es → (e c j : ℕ) → c < 4 → j ≡ edge_size * e + c → j < length es
    → get_or (placed es k ns) j 0 ≡ choose (eqb e k) (get_or ns c 0) (get_or es j 0)
unfolding placed
placed_cell es k ns h e c j l q b =
    let d : j / 4 ≡ e = omega arith in
    let r : j % 4 ≡ c = omega arith in
    rw (lt-ltb k (edge_count es) h) (tab_at (length es) _ 0 j b ∙ rw (d, r))
