-- Every row of every table has n + 4 columns, and in the bounds engine fits.
use Prim.Native.Nat.{ℕ, zero, suc, ◌+◌, ◌≤◌, ◌<◌}
use Rattle.std.specs.Prelude.{◌≡◌, refl, Bool, eqb, length, get_or}
use Rattle.std.proofs.Common.{◌∙◌, ⊎_elim, arith, eq-eqb}
use Rattle.std.proofs.Math.Bool.{true, false}
use mathlib.Core.List.{List, []}
use Rattle.meaning.specs.Number.{choose, bit}
use Rattle.meaning.specs.Chain.{M, Chain}
use Rattle.meaning.specs.Row.{Row, cell, total, settled, rounding}
use Rattle.meaning.specs.Step.{Table, row, Sets, outside, given, first_row, no_row, renewed, removed, after, stage_from}
use Rattle.theory.specs.Numbers.Sum.{same, sum_zero}
use Rattle.theory.specs.Numbers.Tab.{tab_at, tab_length}
use Rattle.theory.specs.Rows.Relation.{combined_length}
use Rattle.theory.specs.Rows.Settle.{settled_length, settled_fits}
use Rattle.theory.specs.Stages.Leads.{step, removes}
use Rattle.theory.specs.Stages.Given.{given_length}
use Rattle.theory.specs.Stages.First.{first_row_from}
use Rattle.theory.specs.Stages.Stage.{leaving}

pub record Fits (b : Bool) (n : ℕ) (r : Row) : Type 0 where
  pub wide : length r ≡ n + 4
  pub small : b ≡ rounding → total n r ≤ M

module _ (b : Bool) (n : ℕ) where
  abbrev All : Table → Type 0
  All t = (i : ℕ) → i < n → Fits b n (row t i)

  settled_row : (r : Row) → length r ≡ n + 4 → Fits b n (settled b n r)
  settled_row r w = record { wide = settled_length b n r w; small = settled_fits b n r w }

  no_row_lem : Fits b n (no_row n)
  unfolding no_row
  no_row_lem =
      record {
        wide = tab_length 0 (n + 4) _;
        small = λ _.
            let z : total n (no_row n) ≡ 0 = sum_zero (cell (no_row n)) (n + 3) (λ j h. tab_at (n + 4) (λ _. 0) 0 j (omega arith)) in
            omega arith;
      }

  removed_own : (s : ℕ) (t : Table) → s < n → row (removed b n s t) s ≡ no_row n
  unfolding removed renewed
  removed_own s t h = tab_at n _ [] s h ∙ rw (eq-eqb s s refl)

  removed_all : (s : ℕ) (t : Table) → All t → All (removed b n s t)
  removed_all s t all i h =
      ⊎_elim
      (λ (e : i ≡ s). rw (e, removed_own s t (omega arith)) no_row_lem)
      (λ (d : i ≡ s → ⊥).
      removes b n s t (Fits b n) i h d
      (λ _. all i h)
      (λ _. settled_row (step n s t i) (combined_length s (outside n s (row t s)) (row t s) (row t i) ∙ (all i h).wide)))
      (same i s)

-- u i is Unknown of the first row of i.
module _ (c : Chain) (k : Sets) (pay u : ℕ → ℕ) (o : List ℕ) where
  abbrev n : ℕ
  n = c.states

  first_all : (b : Bool) → All b n (stage_from b c k pay u o 0)
  unfolding after
  first_all b i h = rw (first_row_from b c k pay u i h) (go (eqb (bit k.live i) 1))
    where
      go : (t : Bool) → Fits b n (choose t (first_row b c k pay (u i) i) (no_row n))
      go true = settled_row b n (given c k pay (u i) i) (given_length c k pay (u i) i)
      go false = no_row_lem b n

  pub stage_fits : (b : Bool) (p i : ℕ) → i < n → Fits b n (row (stage_from b c k pay u o p) i)
  unfolding after
  stage_fits b zero = first_all b
  stage_fits b (suc p) = go (stage_fits b p) (leaving c k o p)
    where
      go : All b n (stage_from b c k pay u o p) → (g : Bool)
          → All b n (choose g (removed b n (get_or o p 0) (stage_from b c k pay u o p)) (stage_from b c k pay u o p))
      go rest true = removed_all b n (get_or o p 0) (stage_from b c k pay u o p) rest
      go rest false = rest
