-- Columns that hold nothing: a row that is blended beside them, and what a removal makes of them.
use Rattle.std.proofs.Common.{◌≡◌, ℕ, zero, suc, ◌+◌, ◌*◌, ◌/◌, ◌^◌, ◌<◌, ◌≤◌, Bool, true, false, List, length, get_or, set, sym, refl, ap, ◌∙◌, subst, ⊎_elim, eq-or-lt_of_le, arith, length-set, get_or-set_other, get_or-set_same}
use native.Mathlib.Nat.{zero-div}
use Rattle.meaning.specs.Number.{sum_to, tab_from}
use Rattle.meaning.specs.Near.{digits, longest}
use Rattle.meaning.specs.Row.{width}
use Rattle.meaning.specs.Refusal.{work_size}
use Rattle.theory.specs.Numbers.Sum.{same, below}
use Rattle.theory.specs.Numbers.Binary.{digits_none}
use Rattle.theory.specs.Numbers.Tab.{tab_of, get_d_zeros}
use Rattle.elimination.specs.Table.{part_at}
use Rattle.elimination.proofs.Tables.{length_row}
use Rattle.near.specs.Word.{word, value}
use Rattle.near.specs.Row.{value_at, exponent, least_exponent, less_by, lowered_words, settled_words, blended_words}
use Rattle.near.specs.Step.{pivot_at, sum_of, RemovedWords}
use Rattle.near.specs.Walk.{Turned}
use Rattle.near.specs.Gap.{Within, Empty, Gone, Going, Spanned, Widened}
use Rattle.near.specs.declared.wide.Gap.{Gap}
use Rattle.near.proofs.Words.{value_none, mix_none}
use Rattle.near.proofs.Rows.{least_most, lowered_at, blended_at}
use Rattle.near.proofs.Steps.{renewed_none, renewed_some}

-- A loop over some of the columns.
module _ {f : ℕ → ℕ} {from : ℕ} {l : List ℕ} where
  pub span_none : Spanned f from from l l
  span_none = record { ordered = omega arith; len = refl; new = λ j h k. absurd (omega arith); before = λ j h. refl; after = λ j h. refl }

  module _ {k : ℕ} {v : List ℕ} (s : Spanned f from k l v) where
    pub span_at : get_or v k 0 ≡ get_or l k 0
    span_at = s.after k (omega arith)

    pub span_more : {x : ℕ} → k < length l → x ≡ f k → Spanned f from (k + 1) l (set v k x)
    span_more {x} h e =
        record {
          ordered = omega (arith, s.ordered);
          len = length-set v k x ∙ s.len;
          new =
              λ j a b.
              ⊎_elim (λ (q : j ≡ k). rw q (get_or-set_same v k x 0 (omega (arith, s.len)) ∙ e))
              (λ (q : j < k). get_or-set_other v k j x 0 (λ q'. omega arith) ∙ s.new j a q)
              (eq-or-lt_of_le (omega arith));
          before = λ j a. get_or-set_other v k j x 0 (λ q. omega (arith, s.ordered)) ∙ s.before j a;
          after = λ j a. get_or-set_other v k j x 0 (λ q. omega arith) ∙ s.after j (omega arith);
        }

-- The columns before the gap and those behind it are all that change: the number in column j becomes f j, told behind the gap of the list as it is then.
module _ (f f' : ℕ → ℕ) (l v u : List ℕ) (g : Gap) (within : Within g (length l)) (el : Empty g l)
    (none : (j : ℕ) → g.from ≤ j → j < g.to → f j ≡ 0) (alike : (j : ℕ) → get_or v j 0 ≡ get_or l j 0 → f' j ≡ f j)
  where
    spans_beside : Spanned f 0 g.from l v → Spanned f' g.to (length l) v u → u ≡ tab_from 0 (length l) f
    spans_beside a b =
        tab_of 0 (length l) f u (b.len ∙ a.len)
        (λ j h.
        ⊎_elim
        (λ (x : j < g.from). b.before j (omega (arith, within)) ∙ a.new j (omega arith) x)
        (λ (x : g.from ≤ j).
        ⊎_elim (λ (y : j < g.to). b.before j y ∙ a.after j x ∙ el.nothing j x y ∙ sym (none j x y))
        (λ (y : g.to ≤ j). b.new j y h ∙ alike j (a.after j x))
        (below j g.to))
        (below j g.from))

-- A row is blended, or lowered, before the gap and behind it.
module _ (l v u : List ℕ) (g : Gap) (within : Within g (length l)) (el : Empty g l) where
  module _ (d w : ℕ) (p : List ℕ) (ep : Empty g p) where
    abbrev fresh : List ℕ → ℕ → ℕ
    fresh r j = word (value_at r j * value d + value w * value_at p j)

    pub spans_blend : Spanned (fresh l) 0 g.from l v → Spanned (fresh v) g.to (length l) v u → u ≡ blended_words d w p l
    unfolding blended_words
    spans_blend =
        spans_beside (fresh l) (fresh v) l v u g within el
        (λ j x y. mix_none (get_or l j 0) (value d) (value w) (get_or p j 0) (el.nothing j x y) (ep.nothing j x y))
        (λ j e. ap (λ z. word (value z * value d + value w * value_at p j)) e)

  pub spans_lower : (k : ℕ) → Spanned (λ j. less_by k (get_or l j 0)) 0 g.from l v → Spanned (λ j. less_by k (get_or v j 0)) g.to (length l) v u
      → u ≡ lowered_words k l
  unfolding lowered_words
  spans_lower k =
      spans_beside (λ j. less_by k (get_or l j 0)) (λ j. less_by k (get_or v j 0)) l v u g within el (λ j x y. ap (less_by k) (el.nothing j x y)) (λ j e. ap (less_by k) e)

-- What is the same after each number of a range is the same before and behind it.
flat : (F : ℕ → ℕ) (a b : ℕ) → a ≤ b → ((j : ℕ) → a ≤ j → j < b → F (suc j) ≡ F j) → F b ≡ F a
flat F a zero h e = let z : a ≡ 0 = omega arith in rw z refl
flat F a (suc b) h e =
    ⊎_elim (λ (l : a < suc b). e b (omega arith) (omega arith) ∙ flat F a b (omega arith) (λ j x y. e j x (omega arith)))
    (λ (l : suc b ≤ a). let z : a ≡ suc b = omega arith in rw z refl)
    (below a (suc b))

-- The most digits, the sum and the least exponent of a row before the gap are those behind it.
module _ {g : Gap} {r : List ℕ} (e : Empty g r) (h : g.from ≤ g.to) where
  pub longest_flat : longest (value_at r) g.to ≡ longest (value_at r) g.from
  unfolding longest
  longest_flat =
      flat (longest (value_at r)) g.from g.to h
      (λ j a b. let z : digits (value_at r j) ≡ 0 = ap (λ x. digits (value x)) (e.nothing j a b) ∙ ap digits value_none ∙ digits_none in omega (arith, z))

  pub sum_flat : (k : ℕ) → sum_to (λ j. value_at r j / 2 ^ k) g.to ≡ sum_to (λ j. value_at r j / 2 ^ k) g.from
  unfolding sum_to
  sum_flat k =
      flat (sum_to (λ j. value_at r j / 2 ^ k)) g.from g.to h
      (λ j a b.
      let z : value_at r j / 2 ^ k ≡ 0 = ap (λ x. value x / 2 ^ k) (e.nothing j a b) ∙ ap (λ x. x / 2 ^ k) value_none ∙ zero-div (2 ^ k) in
      omega (arith, z))

  pub least_flat : least_exponent (λ j. get_or r j 0) g.to ≡ least_exponent (λ j. get_or r j 0) g.from
  unfolding least_exponent
  least_flat =
      flat (least_exponent (λ j. get_or r j 0)) g.from g.to h
      (λ j a b. let z : exponent (get_or r j 0) ≡ 2 ^ 33 = ap exponent (e.nothing j a b) in omega (arith, z, least_most (λ i. get_or r i 0) j))

pub empty_settled : {g : Gap} {r : List ℕ} → Empty g r → g.to ≤ length r → Empty g (settled_words r)
empty_settled {g} {r} e h =
    let k = least_exponent (λ j. get_or r j 0) (length r) in
    record { nothing = λ j a b. lowered_at k r j (omega arith) ∙ ap (less_by k) (e.nothing j a b) }

-- A row without its weight to s has nothing where it had nothing but that.
pub set_none : (r : List ℕ) (s j : ℕ) → s < length r → ((j ≡ s → ⊥) → get_or r j 0 ≡ 0) → get_or (set r s 0) j 0 ≡ 0
set_none r s j l z =
    ⊎_elim (λ (q : j ≡ s). ap (λ i. get_or (set r s 0) i 0) q ∙ get_or-set_same r s 0 0 l) (λ (q : j ≡ s → ⊥). get_or-set_other r s j 0 0 q ∙ z q) (same j s)

pub going_set : {n s : ℕ} {g : Gap} {w : List ℕ} → Going n s g w → work_size n ≤ length w → s < n → (i : ℕ) → i < n → Empty g (set (part_at n w i) s 0)
going_set {n} {s} {g} {w} G room inside i l =
    record { nothing = λ j a b. set_none (part_at n w i) s j (omega (arith, length_row n w room i l)) (G.columns i l j a b) }

-- A column that held nothing holds nothing once a state is removed, and its own column holds nothing then.
module _ (n s : ℕ) {w v : List ℕ} {rows : ℕ} (R : RemovedWords n s w v rows) (room : work_size n ≤ length w) (inside : s < n) (j : ℕ) (h : j < n)
    (zero : (j ≡ s → ⊥) → (i : ℕ) → i < n → get_or (part_at n w i) j 0 ≡ 0)
  where
    abbrev p : List ℕ
    p = settled_words (pivot_at n s w)

    left : (i : ℕ) → i < n → get_or (set (part_at n w i) s 0) j 0 ≡ 0
    left i l = set_none (part_at n w i) s j (omega (arith, length_row n w room i l)) (λ q. zero q i l)

    wide : (i : ℕ) → i < n → j < length (set (part_at n w i) s 0)
    wide i l = omega (arith, length-set (part_at n w i) s 0, length_row n w room i l)

    pivot_none : get_or p j 0 ≡ 0
    pivot_none =
        let k = least_exponent (λ i. get_or (pivot_at n s w) i 0) (length (pivot_at n s w)) in
        lowered_at k (pivot_at n s w) j (wide s inside) ∙ ap (less_by k) (left s inside)

    pub column_gone : (i : ℕ) → i < n → get_or (part_at n v i) j 0 ≡ 0
    column_gone i l =
        let r = part_at n w i in
        ⊎_elim
        (λ (q : i ≡ s). rw q (ap (λ (z : List ℕ). get_or z j 0) R.own ∙ get_d_zeros (width n) j))
        (λ (q : i ≡ s → ⊥).
        ⊎_elim
        (λ (x : 0 < get_or r s 0).
        ap (λ (z : List ℕ). get_or z j 0) (R.new i l q ∙ (renewed_some s (sum_of p) p r x).0)
        ∙ blended_at (sum_of p) (get_or r s 0) p (set r s 0) j (wide i l)
        ∙ mix_none (get_or (set r s 0) j 0) (value (sum_of p)) (value (get_or r s 0)) (get_or p j 0) (left i l) pivot_none)
        (λ (x : get_or r s 0 ≤ 0).
        ap (λ (z : List ℕ). get_or z j 0) (R.new i l q ∙ (renewed_none s (sum_of p) p r (omega arith)).0)
        ∙ ⊎_elim (λ (y : j ≡ s). ap (λ k. get_or r k 0) y ∙ omega arith) (λ (y : j ≡ s → ⊥). zero y i l) (same j s))
        (below 0 (get_or r s 0)))
        (same i s)

-- The gap at a turn, and after it.
module _ (n s : ℕ) {w : List ℕ} {go : Bool} {g r : Gap} (G : Gone n g w) (inside : s < n) (x : (go ≡ true → Widened g s r) × (go ≡ false → r ≡ g)) where
  pub going : Going n s r w
  going = by go refl
    where
      by : (b : Bool) → go ≡ b → Going n s r w
      by true e =
          let y = x.0 e in
          record {
            within = (y.ordered G.within.0, y.most n G.within.1 inside);
            columns = λ i l j a b d. let o = y.each j a b d in (G.columns i l).nothing j o.0 o.1;
            rows = λ i a b d. let o = y.each i a b d in G.rows i o.0 o.1;
          }
      by false e =
          rw (x.1 e)
          (record { within = G.within; columns = λ i l j a b d. (G.columns i l).nothing j a b; rows = λ i a b d. G.rows i a b })

  pub gone_next : {v : List ℕ} {rows : ℕ} → Turned n go s w v rows → work_size n ≤ length w → Gone n r v
  gone_next {v} {rows} T room = by go refl
    where
      row_gone : RemovedWords n s w v rows → (i : ℕ) → r.from ≤ i → i < r.to → (j : ℕ) → get_or (part_at n v i) j 0 ≡ 0
      row_gone R i a b j =
          let p = settled_words (pivot_at n s w) in
          ⊎_elim (λ (q : i ≡ s). rw q (ap (λ (z : List ℕ). get_or z j 0) R.own ∙ get_d_zeros (width n) j))
          (λ (q : i ≡ s → ⊥).
          ap (λ (z : List ℕ). get_or z j 0)
          (R.new i (omega (arith, going.within)) q ∙ (renewed_none s (sum_of p) p (part_at n w i) (going.rows i a b q s)).0)
          ∙ going.rows i a b q j)
          (same i s)

      by : (b : Bool) → go ≡ b → Gone n r v
      by true e =
          record {
            within = going.within;
            columns = λ i l.
                record { nothing = λ j a b. column_gone n s (T.gone e) room inside j (omega (arith, going.within)) (λ d k h. going.columns k h j a b d) i l };
            rows = row_gone (T.gone e);
          }
      by false e = subst (λ (z : List ℕ). Gone n r z) (sym (T.stays e).0) (subst (λ (z : Gap). Gone n z w) (sym (x.1 e)) G)
