-- The rows of a table renewed one after the other, and the table once a state is removed.
use mathlib.Core.Path.{◌≡◌, refl, sym, ◌∙◌}
use mathlib.Core.Logic.{dite}
use mathlib.Core.Bool.{Bool}
use mathlib.Core.List.{List, []}
use Prim.Native.Nat.{ℕ, zero, suc, ◌+◌, ◌≤◌, ◌<◌, max, zero-le}
use native.Mathlib.Numerals.{add-one}
use native.Mathlib.Decide.{dec_lt}
use native.Mathlib.Omega.{arith}
use lib.Dec.{eqb}
use lib.ListN.{get_or}
use Rattle.meaning.specs.Chain.{M}
use Rattle.meaning.specs.Number.{largest, bit}
use Rattle.meaning.specs.Row.{Row, width}
use Rattle.meaning.specs.Step.{row, outside, renewed, removed}
use Rattle.meaning.specs.Steps.{taken_out, largest_taken}
use Rattle.theory.specs.Numbers.Tab.{tab_at, tab_ext}
use Rattle.chain.specs.Rising.{place_of}
use Rattle.std.specs.Prelude.{Option, Some, None, MatchOption, IfSome}
use Rattle.elimination.specs.Row.{Fit, Removable}
use Rattle.elimination.specs.Packed.{targets_of, weights_at, weight_of, Below, Packed, Spread, Room}
use Rattle.elimination.specs.Table.{part_at, row_at, table_of, Fitting, Kept, Placed, Renewed}
use Rattle.elimination.specs.Turn.{Made}
use Rattle.elimination.proofs.Laws.{packed_bit, packed_room, unpacked_ext, fit_modest}
use Rattle.elimination.proofs.Tables.{kept_same, kept_more}

-- After i turns.
pub record Renewing (b : Bool) (g : ℕ → Row) (n : ℕ) (w : List ℕ) (i : ℕ) (v : List ℕ) : Type 0 where
  pub so_far : i ≤ n
  pub kept : Kept n w v
  pub new : (k : ℕ) → k < i → row_at n v k ≡ g k
  pub packed : (k : ℕ) → k < i → Packed n (part_at n v k)
  pub old : (k : ℕ) → i ≤ k → k < n → part_at n v k ≡ part_at n w k
  pub fit : (k : ℕ) → k < i → Fit b n (g k)

module _ {b : Bool} {g : ℕ → Row} {n : ℕ} {w : List ℕ} where
  pub renewing_none : Renewing b g n w 0 w
  renewing_none =
      record {
        so_far = zero-le;
        kept = kept_same n w;
        new = λ k h. absurd (omega arith);
        packed = λ k h. absurd (omega arith);
        old = λ k h b. refl;
        fit = λ k h. absurd (omega arith);
      }

  module _ {i : ℕ} {v : List ℕ} (z : Renewing b g n w i v) where
    module _ {u : List ℕ} {taken : ℕ} (h : i < n) where
      pub renewing_more : {d : ℕ} → Placed b n v i (g i) taken u (Some d) → Renewing b g n w (i + 1) u
      renewing_more p =
          record {
            so_far = omega arith;
            kept = kept_more z.kept p.put.kept;
            new =
                λ k c.
                dite (dec_lt k i) (λ l. rw (p.put.other k (omega arith) (λ q. omega arith)) (z.new k l))
                (λ l. let q : k ≡ i = omega arith in rw q p.put.here);
            packed =
                λ k c.
                dite (dec_lt k i) (λ l. rw (p.put.other k (omega arith) (λ q. omega arith)) (z.packed k l))
                (λ l. let q : k ≡ i = omega arith in rw q p.put.packed);
            old = λ k l c. p.put.other k c (λ q. omega arith) ∙ z.old k (omega arith) c;
            fit = λ k c. dite (dec_lt k i) (λ l. z.fit k l) (λ l. let q : k ≡ i = omega arith in rw q p.tested.is.0);
          }

      pub renewing_stop : {A : Type 0} → Placed b n v i (g i) taken u None → Renewed {A = A} b g n w u None
      renewing_stop p = let l = p.tested.is in record { kept = kept_more z.kept p.put.kept; is = (l.0, (i, (h, l.1))) }

    pub renewing_all : n ≤ i → {A : Type 0} {x : A} → Renewed b g n w v (Some x)
    renewing_all h =
        record {
          kept = z.kept;
          is = record { all = λ k c. z.new k (omega arith); packed = λ k c. z.packed k (omega arith); fit = λ k c. z.fit k (omega arith) };
        }

-- What follows where there is no answer, and where there is one.
pub match_more : {A : Type 0} (o : Option A) {P Q : Type 0} {R S : A → Type 0} → (P → Q) → ((x : A) → R x → S x) → MatchOption o P R → MatchOption o Q S
match_more (Some x) f g h = g x h
match_more None f g h = f h

-- The largest divisor so far, and with that of row i.
pub largest_more : (f : ℕ → ℕ) {i a x r : ℕ} → a ≡ largest f i → x ≡ f i → r ≡ max a x → r ≡ largest f (i + 1)
unfolding largest
largest_more f e d q = rw (add-one, ← e, ← d) q

largest_least : (f : ℕ → ℕ) (n : ℕ) → 1 ≤ largest f n
unfolding largest
largest_least f zero = omega arith
largest_least f (suc n) = omega (arith, largest_least f n)

-- Nothing is taken out of a row that stays.
pub largest_stays : (f : ℕ → ℕ) {i a : ℕ} → a ≡ largest f i → 1 ≡ f i → a ≡ largest f (i + 1)
unfolding largest
largest_stays f {i} e d = rw (add-one, ← d) (omega (arith, e, largest_least f i))

largest_same : (f g : ℕ → ℕ) (n : ℕ) → ((i : ℕ) → i < n → f i ≡ g i) → largest f n ≡ largest g n
unfolding largest
largest_same f g zero h = refl
largest_same f g (suc n) h = rw (largest_same f g n (λ i b. h i (omega arith)), h n (omega arith))

pub row_is : (n : ℕ) (w : List ℕ) (i : ℕ) → i < n → row (table_of n w) i ≡ row_at n w i
row_is n w i h = tab_at n (row_at n w) [] i h

module _ (b : Bool) (n s : ℕ) (w : List ℕ) (hs : s < n) (d : ℕ) (ed : d ≡ outside n s (row_at n w s)) (p : Row) (ep : p ≡ row_at n w s) where
  next : ℕ → Row
  next i = renewed b n s (outside n s (row (table_of n w) s)) (row (table_of n w) s) (eqb i s) (row (table_of n w) i)

  row_next : (k : ℕ) → k < n → renewed b n s d p (eqb k s) (row_at n w k) ≡ next k
  unfolding next
  row_next k h = rw (ed, ep, row_is n w k h, row_is n w s hs)

  row_removed : (k : ℕ) → k < n → renewed b n s d p (eqb k s) (row_at n w k) ≡ row (removed b n s (table_of n w)) k
  unfolding removed next
  row_removed k h = row_next k h ∙ sym (tab_at n next [] k h)

  table_removed : (v : List ℕ) → ((k : ℕ) → k < n → row_at n v k ≡ renewed b n s d p (eqb k s) (row_at n w k))
      → table_of n v ≡ removed b n s (table_of n w)
  unfolding removed next
  table_removed v h = tab_ext n (row_at n v) next (λ k l. h k l ∙ row_next k l)

  largest_taken_lem : largest (λ k. taken_out s d p (eqb k s) (row_at n w k)) n ≡ largest_taken n s (table_of n w)
  largest_taken_lem =
      largest_same _ (λ i. taken_out s (outside n s (row (table_of n w) s)) (row (table_of n w) s) (eqb i s) (row (table_of n w) i)) n
      (λ k h. rw (ed, ep, row_is n w k h, row_is n w s hs))

  module _ {v : List ℕ} (answer : Option ℕ) (z : Renewed b (λ k. renewed b n s d p (eqb k s) (row_at n w k)) n w v answer) where
    removed_made : Made b n (removed b n s (table_of n w)) w v answer
    removed_made =
        record {
          kept = z.kept;
          is =
              match_more answer (λ l. (l.0, (l.1.0, (l.1.1.0, rw (row_removed l.1.0 l.1.1.0) at l.1.1.1))))
              (λ _ r. record { kept = z.kept; same = table_removed v r.all; packed = r.packed; fit = λ i h. rw (row_removed i h) at (r.fit i h) })
              z.is;
        }

  -- The table once s is removed, and the largest divisor that was taken out.
  pub removal : {v : List ℕ} (answer : Option ℕ)
      → Renewed b (λ k. renewed b n s d p (eqb k s) (row_at n w k)) n w v answer
      × IfSome answer (λ r. r ≡ largest (λ k. taken_out s d p (eqb k s) (row_at n w k)) n)
      → Made b n (removed b n s (table_of n w)) w v answer × IfSome answer (λ r. r ≡ largest_taken n s (table_of n w))
  removal answer z = (removed_made answer z.0, match_more answer (λ t. t) (λ _ e. e ∙ largest_taken_lem) z.1)

-- What a step asks of the row of s, of which pivot is a copy, and y has the weights by state.
module _ {b : Bool} {n s : ℕ} {w : List ℕ} (h : Fitting b n w) (hs : s < n) (pivot : List ℕ) (same : (q : ℕ) → get_or pivot q 0 ≡ get_or (part_at n w s) q 0) where
  pivot_inside : Below n pivot
  pivot_inside j e = (h.packed s hs).inside j (rw (same 0) at e)

  pub removable : {d : ℕ} {y : List ℕ} → d ≤ M → Spread (part_at n w s) y → Removable b n s d pivot y
  unfolding weight_of
  removable hd e =
      record {
        state = hs;
        divisor = hd;
        inside = pivot_inside;
        modest = λ q l. rw (same q) (fit_modest (h.packed s hs) (h.fit s hs) q l);
        spread = λ j. e j ∙ rw (same 0, same (weights_at + place_of (targets_of (part_at n w s)) j));
        fit = rw (unpacked_ext n pivot (part_at n w s) same) (h.fit s hs);
      }

  -- No row has the spare state for a target, so each has room for the targets of s too.
  unmarked : (i : ℕ) → i < n → bit (targets_of (part_at n w i)) h.spare.state ≡ 0
  unmarked i l =
      let g = h.spare.state in
      let d : bit (targets_of (part_at n w i)) g ≡ 1 → ⊥ = λ e. (
      omega (arith, (packed_bit (h.packed i l) g h.spare.inside).0 e, rw (row_is n w i l) at (h.spare.none i))) in
      omega arith

  pub rooms : (i : ℕ) → i < n → Room (width n) (part_at n w i) pivot
  rooms i l =
      packed_room n h.spare.state h.few h.spare.inside (h.packed i l).inside pivot_inside (unmarked i l) (rw (same 0) (unmarked s hs))
