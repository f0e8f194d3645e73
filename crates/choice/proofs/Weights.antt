-- The sets of the columns against the table: the products that are told of them, the first rows, and a removal.
use Prim.Native.Nat.{ℕ, ◌+◌, ◌*◌, ◌-◌, ◌^◌, ◌≤◌, ◌<◌}
use mathlib.Core.Path.{◌≡◌, refl, sym, ap, ap₂, ◌∙◌}
use mathlib.Core.Logic.{◌↔◌, inl, inr, ⊎_elim}
use mathlib.Core.List.{List, [], ◌∷◌}
use Rattle.std.proofs.Common.{Bool, true, false, zero, suc, cond, add_assoc, add-zero, zero-add, one-add}
use Rattle.std.specs.List.{filter, range_with_len}
use native.Mathlib.Omega.{arith}
use lib.Count.{ones}
use lib.Dec.{eqb}
use lib.ListN.{length, get_or, set, length-set}
use lib.Seq.{get_or-set_same, get_or-set_other}
use borrow.Author.Tests.{eq-eqb, ne_eqb}
use Rattle.meaning.specs.Number.{sum_to, only, choose, present, bit}
use Rattle.meaning.specs.Chain.{most_states, Chain, edge_count, from}
use Rattle.meaning.specs.Row.{cell, unknown_column, exact}
use Rattle.meaning.specs.Step.{Table, row, Sets, outside, removed, after}
use Rattle.meaning.specs.Survey.{Count, none, one, skip}
use Rattle.meaning.specs.Choice.{product, exact_at}
use Rattle.theory.specs.Numbers.Sum.{same, sum_ext, sum_zero, sum_join}
use Rattle.theory.specs.Chains.Fine.{Fine}
use Rattle.theory.specs.Chains.Counted.{count_ones}
use Rattle.theory.specs.Stages.Weighs.{Wide, Brought, first_weighs, removed_weighs}
use Rattle.survey.specs.Sets.{Exactly}
use Rattle.choice.specs.Columns.{In, Weighed, Without, Gathered, counts, columns_in, rows_in, PassedOn, Stays, Emptied}
use Rattle.choice.specs.Turns.{product_in}
use Rattle.theory.specs.Numbers.Bits.{bit_small, nothing_in}

-- A count is a sum of ones.
count_sum : {P : ℕ → Type 0} (f : ℕ → ℕ) {n m : ℕ} → ((i : ℕ) → P i → f i ≡ 1) → ((i : ℕ) → (P i → ⊥) → f i ≡ 0) → Count P n m → sum_to f n ≡ m
unfolding sum_to
count_sum f y z none = refl
count_sum f y z (one p a) = omega (arith, count_sum f y z a, y _ p)
count_sum f y z (skip d a) = omega (arith, count_sum f y z a, z _ d)

-- The ones of a set without s are the states but s that are in it.
pub ones_but : (set r s : ℕ) → Exactly (Without set s) r → r < 2 ^ 64 → ones r ≡ sum_to (λ i. choose (eqb i s) 0 (bit set i)) most_states
ones_but set r s law h =
    sym (count_sum (λ i. choose (eqb i s) 0 (bit set i)) (λ i w. rw (ne_eqb i s w.1) w.0) none_else (count_ones (Without set s) r law 64 h))
  where
    none_else : (i : ℕ) → (Without set s i → ⊥) → choose (eqb i s) 0 (bit set i) ≡ 0
    none_else i d =
        ⊎_elim
        (λ (e : i ≡ s). rw (eq-eqb i s e))
        (λ (e : i ≡ s → ⊥). rw (ne_eqb i s e) (let z : bit set i ≡ 1 → ⊥ = λ b. d (b, e) in omega arith))
        (same i s)

-- How many numbers below n pass a test, counted one by one.
count_from : (p : ℕ → Bool) (a n : ℕ) → length (filter p (range_with_len a n)) ≡ sum_to (λ j. only (p (a + j)) 1) n
unfolding sum_to
count_from p a zero = refl
count_from p a (suc n) =
    let front : sum_to (λ j. only (p (a + j)) 1) (1 + n) ≡ only (p (a + 0)) 1 + sum_to (λ j. only (p (a + (1 + j))) 1) n =
    omega (arith, sum_join (λ j. only (p (a + j)) 1) 1 n) in
    let same : sum_to (λ j. only (p (a + 1 + j)) 1) n ≡ sum_to (λ j. only (p (a + (1 + j))) 1) n =
    sum_ext _ _ n (λ j _. ap (λ i. only (p i) 1) (add_assoc a 1 j)) in
    let one : length (filter p (range_with_len a (suc n))) ≡ only (p a) 1 + length (filter p (range_with_len (a + 1) n)) =
    elim (p a) as (λ b. length (cond b (a ∷ filter p (range_with_len (a + 1) n)) (filter p (range_with_len (a + 1) n))) ≡ only b 1 + length (filter p (range_with_len (a + 1) n))) [ true ↦ omega arith | false ↦ omega arith ] in
    let first : only (p (a + 0)) 1 ≡ only (p a) 1 = ap (λ i. only (p i) 1) (add-zero a) in
    let step : sum_to (λ j. only (p (a + j)) 1) (suc n) ≡ sum_to (λ j. only (p (a + j)) 1) (1 + n) = ap (sum_to (λ j. only (p (a + j)) 1)) (sym (one-add n)) in
    omega (arith, one, count_from p (a + 1) n, same, front, first, step)

-- A number below 2 is 1 or 0.
only_bit : (x : ℕ) → x < 2 → only (eqb x 1) 1 ≡ x
only_bit zero h = refl
only_bit (suc zero) h = refl
only_bit (suc (suc x)) h = absurd (omega arith)

counts_small : (columns : List ℕ) (s j : ℕ) → counts columns s j < 2
counts_small columns s j =
    elim (eqb j s) as (λ b. choose b 0 (bit (get_or columns j 0) s) < 2) [ true ↦ omega arith | false ↦ bit_small (get_or columns j 0) s ]

-- So many columns the row of s leads to: those in whose set it is, but its own.
pub columns_counted : (n s : ℕ) (columns : List ℕ) → length (filter (λ j. eqb (counts columns s j) 1) (range_with_len 0 (n + 2))) ≡ columns_in n columns s
columns_counted n s columns =
    count_from (λ j. eqb (counts columns s j) 1) 0 (n + 2)
    ∙ sum_ext _ _ (n + 2) (λ j _. ap (λ i. only (eqb (counts columns s i) 1) 1) (zero-add j) ∙ only_bit (counts columns s j) (counts_small columns s j))

-- A bit and a weight that say the same count the same.
bit_present : (set i x : ℕ) → (bit set i ≡ 1) ↔ (0 < x) → bit set i ≡ present x
bit_present set i x law =
    ⊎_elim
    (λ (e : x ≡ 0). rw (eq-eqb x 0 e) (let d : bit set i ≡ 1 → ⊥ = λ b. omega (arith, e, law.0 b) in omega arith))
    (λ (e : x ≡ 0 → ⊥). rw (ne_eqb x 0 e) (law.1 (omega arith)))
    (same x 0)

module _ {n : ℕ} {t : Table} {columns : List ℕ} (w : Weighed n t columns) (few : n ≤ most_states) where
  cell_law : (i j : ℕ) → i < n → j < unknown_column n → (bit (get_or columns j 0) i ≡ 1) ↔ (0 < cell (row t i) j)
  cell_law i j h l = (λ b. ((w.law i j l).0 b).1, λ p. (w.law i j l).1 (h, p))

  -- The products of the table are told by its columns.
  pub weighed_product : (s : ℕ) → s < n → product_in n columns s ≡ product n s t
  weighed_product s h = ap₂ (λ x y. x * y) rows across
    where
      f : ℕ → ℕ
      f i = choose (eqb i s) 0 (bit (get_or columns s 0) i)

      past : (i : ℕ) → n ≤ i → f i ≡ 0
      past i l =
          let b : bit (get_or columns s 0) i ≡ 1 → ⊥ = λ b. omega (arith, l, ((w.law i s (omega arith)).0 b).0) in
          rw (ne_eqb i s (omega arith)) (omega arith)

      rows : rows_in columns s ≡ sum_to (λ i. choose (eqb i s) 0 (present (cell (row t i) s))) n
      rows =
          let e : n + (most_states - n) ≡ most_states = omega arith in
          ap (sum_to f) (sym e)
          ∙ sum_join f n (most_states - n)
          ∙ omega (
            arith,
            sum_zero (λ j. f (n + j)) (most_states - n) (λ j _. past (n + j) (omega arith)),
            sum_ext f _ n (λ i l. ap (choose (eqb i s) 0) (bit_present (get_or columns s 0) i _ (cell_law i s l (omega arith)))),
          )

      across : columns_in n columns s ≡ sum_to (λ j. choose (eqb j s) 0 (present (cell (row t s) j))) (unknown_column n)
      across = sum_ext _ _ (unknown_column n) (λ j l. ap (choose (eqb j s) 0) (bit_present (get_or columns j 0) s _ (cell_law s j h l)))

  -- A removal.
  pub weighed_removed : (s : ℕ) → s < n → Wide n t → 0 < outside n s (row t s) → (new : List ℕ) → Emptied n s columns new → Weighed n (removed exact n s t) new
  weighed_removed s h wide loose new e =
      record { size = e.size ∙ w.size; law = λ i j l. (there i j l, back i j l) }
    where
      there : (i j : ℕ) → j < unknown_column n → In new j i → (i < n) × (0 < cell (row (removed exact n s t) i) j)
      there i j l b =
          let x = (e.law i j l).0 b in
          let inside : i < n =
          ⊎_elim (λ y. ((w.law i j l).0 y).0) (λ (y : In columns s i × In columns j s). ((w.law i s (omega arith)).0 y.0).0) x.weighs in (
            inside,
            (removed_weighs n s t wide h loose i inside j (omega arith)).1
                (record {
                  other_row = x.other_row;
                  other_column = x.other_column;
                  weighs =
                      ⊎_elim
                      (λ y. inl ((w.law i j l).0 y).1)
                      (λ (y : In columns s i × In columns j s). inr (((w.law i s (omega arith)).0 y.0).1, ((w.law s j l).0 y.1).1))
                      x.weighs;
                }),
          )

      back : (i j : ℕ) → j < unknown_column n → (i < n) × (0 < cell (row (removed exact n s t) i) j) → In new j i
      back i j l p =
          let x = (removed_weighs n s t wide h loose i p.0 j (omega arith)).0 p.1 in
          (e.law i j l).1
          (record {
            other_row = x.other_row;
            other_column = x.other_column;
            weighs =
                ⊎_elim
                (λ y. inl ((w.law i j l).1 (p.0, y)))
                (λ (y : (0 < cell (row t i) s) × (0 < cell (row t s) j)). inr ((w.law i s (omega arith)).1 (p.0, y.0), (w.law s j l).1 (h, y.1)))
                x.weighs;
          })

-- The first rows.
pub weighed_first : (c : Chain) (k : Sets) → Fine c → ((e : ℕ) → e < edge_count c.edges → from c.edges e < c.states) → (columns : List ℕ)
    → Gathered c.states (Brought c.states c.goals c.edges k (edge_count c.edges)) columns → Weighed c.states (exact_at c k [] 0) columns
unfolding after
weighed_first c k fine sources columns g =
    record {
      size = g.size;
      law = λ i j l. (
        λ b.
            let w = (g.law i j l).0 b in
            let inside : i < c.states = omega (arith, w.1.1.source, sources w.0 w.1.0) in
            (inside, (first_weighs c k _ fine i inside j l).1 w),
        λ p. (g.law i j l).1 ((first_weighs c k _ fine i p.0 j l).0 p.1),
      );
    }

-- The columns below m are passed on, and the others are as they were.
pub record Passing (m from s : ℕ) (columns new : List ℕ) : Type 0 where
  pub size : length new ≡ length columns
  pub done : (j : ℕ) → j < m → Exactly (PassedOn (get_or columns j 0) from s) (get_or new j 0)
  pub still : (j : ℕ) → m ≤ j → get_or new j 0 ≡ get_or columns j 0

-- Where all columns are passed on and that of s is emptied, s is removed.
pub emptied : {m from s : ℕ} (n : ℕ) {columns new : List ℕ} → Passing m from s columns new → Exactly (Without (get_or columns s 0) s) from → unknown_column n ≤ m
    → s < length columns → Emptied n s columns (set new s 0)
emptied {m} {from} {s} n {columns} {new} p others h k =
    record { size = length-set new s 0 ∙ p.size; law = λ i j l. (there i j l, back i j l) }
  where
    own : get_or (set new s 0) s 0 ≡ 0
    own = get_or-set_same new s 0 0 (omega (arith, k, p.size))

    there : (i j : ℕ) → j < unknown_column n → In (set new s 0) j i → Stays s columns i j
    there i j l b =
        ⊎_elim
        (λ (e : j ≡ s). absurd (nothing_in i (ap (λ z. bit z i) (sym (ap (λ j. get_or (set new s 0) j 0) e ∙ own)) ∙ b)))
        (λ (d : j ≡ s → ⊥).
        let x = (p.done j (omega arith) i).0 (ap (λ z. bit z i) (sym (get_or-set_other new s j 0 0 d)) ∙ b) in
        record {
          other_row = x.other;
          other_column = d;
          weighs = ⊎_elim inl (λ (y : (bit (get_or columns j 0) s ≡ 1) × (bit from i ≡ 1)). inr (((others i).0 y.1).0, y.0)) x.weighs;
        })
        (same j s)

    back : (i j : ℕ) → j < unknown_column n → Stays s columns i j → In (set new s 0) j i
    back i j l x =
        ap (λ z. bit z i) (get_or-set_other new s j 0 0 x.other_column)
        ∙ (p.done j (omega arith) i).1
        (record {
          other = x.other_row;
          weighs = ⊎_elim inl (λ (y : In columns s i × In columns j s). inr (y.1, (others i).1 (y.0, x.other_row))) x.weighs;
        })
