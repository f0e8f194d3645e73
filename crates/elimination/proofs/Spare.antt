-- A state that no row has a weight to stays so, whichever state is removed.
use mathlib.Core.Path.{◌≡◌, ◌∙◌}
use mathlib.Core.Logic.{dite, ⊎_elim}
use mathlib.Core.Bool.{Bool, true, false}
use mathlib.Core.List.{List, []}
use Prim.Native.Nat.{ℕ, zero, suc, ◌+◌, ◌*◌, ◌<◌}
use native.Mathlib.Decide.{dec_lt}
use native.Mathlib.Omega.{arith}
use lib.Dec.{eqb}
use lib.ListN.{length, get_or}
use borrow.Author.Tests.{eq-eqb, ne_eqb}
use Rattle.meaning.specs.Number.{choose, bit, tab_from}
use Rattle.meaning.specs.Chain.{Chain, Goal}
use Rattle.meaning.specs.Row.{Row, cell, settled, width}
use Rattle.meaning.specs.Step.{Table, row, Sets, RightTo, no_row, outside, combined, renewed, removed, after, given, first_row, first}
use Rattle.theory.specs.Numbers.Sum.{same}
use Rattle.theory.specs.Numbers.Tab.{tab_at, tab_past}
use Rattle.theory.specs.Rows.Relation.{combined_length}
use Rattle.theory.specs.Rows.Settle.{settled_length, settled_zero}
use Rattle.theory.specs.Stages.Leads.{step, removes}
use Rattle.theory.specs.Stages.Given.{given_state, given_length}
use Rattle.elimination.specs.Table.{Spare}
use Rattle.elimination.proofs.Along.{blank}
use Rattle.elimination.proofs.Rows.{no_row_cell, no_row_length}

-- A column of a list that is made by columns, and of a row past the table.
tab_none : (m : ℕ) (f : ℕ → ℕ) (j : ℕ) → (j < m → f j ≡ 0) → cell (tab_from 0 m f) j ≡ 0
tab_none m f j h = dite (dec_lt j m) (λ l. tab_at m f 0 j l ∙ h l) (λ l. tab_past 0 m f 0 j (omega arith))

past_none : (n : ℕ) (f : ℕ → Row) (i j : ℕ) → (i < n → cell (row (tab_from 0 n f) i) j ≡ 0) → cell (row (tab_from 0 n f) i) j ≡ 0
past_none n f i j h = dite (dec_lt i n) h (λ l. rw (tab_past 0 n f [] i (omega arith)))

combined_none : (s d : ℕ) (p r : Row) (j : ℕ) → cell p j ≡ 0 → cell r j ≡ 0 → cell (combined s d p r) j ≡ 0
unfolding combined
combined_none s d p r j x y =
    tab_none (length r) (λ j. choose (eqb j s) 0 (cell r j * d + cell r s * cell p j)) j (λ _. blank (eqb j s) d (cell r s) (cell r j) (cell p j) y x)

module _ (b : Bool) (n s : ℕ) (t : Table) where
  -- A row of the table once s is removed is none, as it was, or settled anew.
  removed_each : (P : Row → Type 0) (i : ℕ) → i < n → P (no_row n) → P (row t i) → P (settled b n (step n s t i)) → P (row (removed b n s t) i)
  unfolding removed renewed
  removed_each P i h none old new =
      ⊎_elim
      (λ (e : i ≡ s).
      rw (tab_at n (λ i. renewed b n s (outside n s (row t s)) (row t s) (eqb i s) (row t i)) [] i h, eq-eqb i s e) none)
      (λ (d : i ≡ s → ⊥). removes b n s t P i h d (λ _. old) (λ _. new))
      (same i s)

  pub removed_spare : Spare n t → Spare n (removed b n s t)
  unfolding removed
  removed_spare z =
      record {
        state = z.state;
        inside = z.inside;
        none = λ i.
            past_none n _ i z.state
            (λ h.
            removed_each (λ r. cell r z.state ≡ 0) i h (no_row_cell n z.state) (z.none i)
            (settled_zero b n (step n s t i) (long i h) z.state (λ _ e. omega (arith, z.inside))
            (combined_none s _ (row t s) (row t i) z.state (z.none s) (z.none i))));
        wide = λ i h. removed_each (λ r. length r ≡ width n) i h (no_row_length n) (z.wide i h) (settled_length b n (step n s t i) (long i h));
      }
    where
      long : (i : ℕ) → i < n → length (step n s t i) ≡ n + 4
      long i h = combined_length s _ (row t s) (row t i) ∙ z.wide i h

pub after_spare : (b : Bool) (n : ℕ) (go : ℕ → Bool) (o : List ℕ) (t : Table) → Spare n t → (p : ℕ) → Spare n (after b n go o t p)
unfolding after
after_spare b n go o t z zero = z
after_spare b n go o t z (suc p) = turned (go (get_or o p 0)) (after_spare b n go o t z p)
  where
    turned : (g : Bool) {u : Table} → Spare n u → Spare n (choose g (removed b n (get_or o p 0) u) u)
    turned true {u} h = removed_spare b n (get_or o p 0) u h
    turned false h = h

-- A goal is never live, so no first row has a weight to it, whatever is Unknown.
pub first_spare : (b : Bool) (c : Chain) (k : Sets) (pay u : ℕ → ℕ) {End : ℕ → Type 0} → RightTo c End k → (g : ℕ) → g < c.states → Goal c g
    → Spare c.states (first b c k pay u)
unfolding first
first_spare b c k pay u right g inside goal =
    record {
      state = g;
      inside = inside;
      none = λ i.
          past_none c.states _ i g
          (λ h.
          each (λ r. cell r g ≡ 0) i h (no_row_cell c.states g)
          (settled_zero b c.states (given c k pay (u i) i) (given_length c k pay (u i) i) g (λ _ e. omega arith) (given_none i)));
      wide = λ i h.
          each (λ r. length r ≡ width c.states) i h (no_row_length c.states)
          (settled_length b c.states (given c k pay (u i) i) (given_length c k pay (u i) i));
    }
  where
    given_none : (i : ℕ) → cell (given c k pay (u i) i) g ≡ 0
    given_none i = given_state c k pay (u i) i g inside ∙ rw (ne_eqb (bit k.live g) 1 (λ l. ((right.live g).0 l).unwon goal))

    either : (P : Row → Type 0) (a : Bool) {x y : Row} → P y → P x → P (choose a x y)
    either P true q r = r
    either P false q r = q

    each : (P : Row → Type 0) (i : ℕ) → i < c.states → P (no_row c.states) → P (first_row b c k pay (u i) i) → P (row (first b c k pay u) i)
    each P i h none new =
        rw (tab_at c.states (λ i. choose (eqb (bit k.live i) 1) (first_row b c k pay (u i) i) (no_row c.states)) [] i h)
        (either P (eqb (bit k.live i) 1) none new)
