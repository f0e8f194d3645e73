-- The rows of words of a table that are renewed: one after the other, beside the gap, and all of them once the row of the removed state is cleared.
use Rattle.std.proofs.Common.{◌≡◌, ℕ, zero, suc, ◌+◌, ◌<◌, ◌≤◌, List, length, get_or, replicate, sym, refl, ap, ◌∙◌, ⊎_elim, add-one, arith, eq-eqb, ne_eqb}
use Rattle.meaning.specs.Number.{sum_to, only}
use Rattle.meaning.specs.Row.{width}
use Rattle.meaning.specs.Refusal.{work_size}
use Rattle.theory.specs.Numbers.Sum.{same, below, last_or_below, sum_ext, sum_zero, sum_next}
use Rattle.theory.specs.Numbers.Tab.{get_d_zeros}
use Rattle.elimination.specs.Table.{part_at}
use Rattle.elimination.specs.Gather.{Changed}
use Rattle.elimination.proofs.Tables.{kept_same, kept_more, length_row}
use Rattle.near.specs.Step.{leads_to, renews, renewed_words, RenewedOn, RenewedRows}
use Rattle.near.specs.Gap.{Going, Cleared}
use Rattle.near.specs.declared.wide.Gap.{Gap}
use Rattle.near.proofs.Steps.{renewed_none}
use Rattle.near.proofs.Gaps.{set_none, going_set}

-- How many of the first i rows have a weight to s.
abbrev leading : ℕ → ℕ → List ℕ → ℕ → ℕ
leading n s w = sum_to (λ k. only (leads_to s (part_at n w k)) 1)

-- Sums that have the same numbers from a on grow alike.
sum_part : (f g : ℕ → ℕ) (a b : ℕ) → a ≤ b → ((k : ℕ) → a ≤ k → k < b → f k ≡ g k) → sum_to f b + sum_to g a ≡ sum_to g b + sum_to f a
unfolding sum_to
sum_part f g a zero h e = let z : a ≡ 0 = omega arith in rw z refl
sum_part f g a (suc b) h e =
    ⊎_elim (λ (l : a < suc b). omega (arith, e b (omega arith) (omega arith), sum_part f g a b (omega arith) (λ k x y. e k x (omega arith))))
    (λ (l : suc b ≤ a). let z : a ≡ suc b = omega arith in rw z (omega arith))
    (below a (suc b))

module _ {n s d : ℕ} {p w : List ℕ} {from : ℕ} where
  pub rows_none : RenewedOn n s d p from from w w 0
  rows_none =
      record {
        ordered = omega arith;
        kept = kept_same n w;
        new = λ k h l. absurd (omega arith);
        before = λ k h l. refl;
        after = λ k h l. refl;
        few = omega arith;
        count = omega arith;
      }

  module _ {i rows more : ℕ} {v u : List ℕ} (z : RenewedOn n s d p from i w v rows) (h : i < n)
      (c : Changed n v i (renewed_words s d p (part_at n v i)) u) (m : more ≡ only (leads_to s (part_at n v i)) 1) (one : more ≤ 1)
    where
      same_row : part_at n v i ≡ part_at n w i
      same_row = z.after i (omega arith) h

      pub rows_more : RenewedOn n s d p from (i + 1) w u (rows + more)
      rows_more =
          let e = rw same_row at m in
          let next = sum_next (λ k. only (leads_to s (part_at n w k)) 1) i _ (add-one i) in
          record {
            ordered = omega (arith, z.ordered);
            kept = kept_more z.kept c.kept;
            new = λ k a b.
                last_or_below (rw add-one at b)
                (λ (q : k ≡ i). rw q (c.here ∙ ap (renewed_words s d p) same_row))
                (λ (l : k < i). c.other k (omega arith) (λ q. omega arith) ∙ z.new k a l);
            before = λ k a l. c.other k l (λ q. omega (arith, z.ordered)) ∙ z.before k a l;
            after = λ k b l. c.other k l (λ q. omega arith) ∙ z.after k (omega arith) l;
            few = omega (arith, z.few);
            count = omega (arith, z.count, e, next);
          }

-- The rows before the gap and those behind it are all that change.
module _ {n s d : ℕ} {p w v u : List ℕ} {g : Gap} {one two : ℕ} (G : Cleared n s g w) (A : RenewedOn n s d p 0 g.from w v one)
    (B : RenewedOn n s d p g.to n v u two)
  where
    stays : (k : ℕ) → g.from ≤ k → k < g.to → (renewed_words s d p (part_at n w k) ≡ part_at n w k) × (only (leads_to s (part_at n w k)) 1 ≡ 0)
    stays k a b = renewed_none s d p (part_at n w k) (G.rows k a b)

    counts : one + two + leading n s w 0 ≡ leading n s w n
    counts =
        let nothing : (b : ℕ) → sum_to (λ (k : ℕ). 0) b ≡ 0 = λ b. sum_zero (λ (k : ℕ). 0) b (λ j h. refl) in
        let none = sum_part (λ (k : ℕ). only (leads_to s (part_at n w k)) 1) (λ (k : ℕ). 0) g.from g.to G.within.0 (λ k a b. (stays k a b).1) in
        let alike = sum_part (λ (k : ℕ). only (leads_to s (part_at n v k)) 1) (λ (k : ℕ). only (leads_to s (part_at n w k)) 1) g.to n G.within.1 (λ k a b. ap (λ (r : List ℕ). only (leads_to s r) 1) (A.after k (omega (arith, G.within)) b)) in
        omega (arith, A.count, B.count, none, alike, nothing g.from, nothing g.to)

    pub rows_beside : RenewedOn n s d p 0 n w u (one + two)
    rows_beside =
        record {
          ordered = omega arith;
          kept = kept_more A.kept B.kept;
          new = λ k a b.
              ⊎_elim
              (λ (x : k < g.from). B.before k (omega (arith, G.within)) b ∙ A.new k a x)
              (λ (x : g.from ≤ k).
              ⊎_elim (λ (y : k < g.to). B.before k y b ∙ A.after k x b ∙ sym (stays k x y).0)
              (λ (y : g.to ≤ k). B.new k y b ∙ ap (renewed_words s d p) (A.after k x b))
              (below k g.to))
              (below k g.from);
          before = λ k a l. absurd (omega arith);
          after = λ k a l. absurd (omega arith);
          few = omega (arith, A.few, B.few, G.within);
          count = counts;
        }

-- The row of s is made zero before the others are renewed.
module _ {n s : ℕ} {w v : List ℕ} (C : Changed n w s (replicate (width n) 0) v) (room : work_size n ≤ length w) (inside : s < n) where
  clear_at : (j : ℕ) → get_or (part_at n v s) j 0 ≡ 0
  clear_at j = ap (λ (r : List ℕ). get_or r j 0) C.here ∙ get_d_zeros (width n) j

  pub row_cleared : {g : Gap} → Going n s g w → Cleared n s g v
  row_cleared {g} G =
      record {
        within = G.within;
        columns = λ i l.
            ⊎_elim
            (λ (q : i ≡ s).
            rw q (record { nothing = λ j a b. set_none (part_at n v s) s j (omega (arith, length_row n v (omega (arith, room, C.kept.len)) s inside)) (λ e. clear_at j) }))
            (λ (q : i ≡ s → ⊥). rw (C.other i l q) (going_set G room inside i l))
            (same i s);
        rows = λ i a b.
            ⊎_elim (λ (q : i ≡ s). rw q (clear_at s))
            (λ (q : i ≡ s → ⊥). ap (λ (r : List ℕ). get_or r s 0) (C.other i (omega (arith, G.within)) q) ∙ G.rows i a b q s)
            (same i s);
      }

  module _ {d : ℕ} {p u : List ℕ} {rows : ℕ} (R : RenewedOn n s d p 0 n v u rows) where
    counts_as : (k : ℕ) → k < n → only (leads_to s (part_at n v k)) 1 ≡ only (renews s k (part_at n w k)) 1
    counts_as k l =
        ⊎_elim (λ (q : k ≡ s). rw (q, eq-eqb s s refl) (renewed_none s d p (part_at n v s) (clear_at s)).1)
        (λ (q : k ≡ s → ⊥). rw (ne_eqb k s q) (ap (λ (r : List ℕ). only (leads_to s r) 1) (C.other k l q)))
        (same k s)

    pub rows_removed : RenewedRows n s d p w u rows
    unfolding sum_to
    rows_removed =
        record {
          kept = kept_more C.kept R.kept;
          own = R.new s (omega arith) inside ∙ (renewed_none s d p (part_at n v s) (clear_at s)).0 ∙ C.here;
          new = λ k l q. R.new k (omega arith) l ∙ ap (renewed_words s d p) (C.other k l q);
          few = omega (arith, R.few);
          count = omega (arith, R.count) ∙ sum_ext _ _ n counts_as;
        }
