-- A loop over a list from the front that puts f j in the place of entry j.
use Rattle.std.specs.Prelude.{◌≡◌, refl, List, ℕ, ◌+◌, ◌-◌, ◌≤◌, ◌<◌, length, get_or, set, drop, replicate}
use Rattle.std.proofs.Common.{sym, ap, ◌∙◌, ⊎_elim, zero-le, eq-or-lt_of_le, arith, length-set, length-append, length-drop, ext_get_or, get_or-set_same, get_or-set_other, get_or-append-add, get_or-drop}
use Rattle.std.proofs.Math.Logic.{dite}
use Rattle.std.proofs.Math.Decide.{dec_lt}
use Rattle.std.proofs.lemmas.List.{length-replicate}
use Rattle.std.proofs.Math.ListN.{get_or-append, get_or-eq_default}
use Rattle.meaning.specs.Number.{tab_from, filled}
use Rattle.theory.specs.Numbers.Sum.{below}
use Rattle.theory.specs.Numbers.Tab.{tab_at, tab_length, tab_of, get_d_zeros}

-- After k turns over l: the numbers below k are new, the others as they were.
pub record Walked (f : ℕ → ℕ) (l : List ℕ) (k : ℕ) (row : List ℕ) : Type 0 where
  pub so_far : k ≤ length l
  pub len : length row ≡ length l
  pub new : (j : ℕ) → j < k → get_or row j 0 ≡ f j
  pub old : (j : ℕ) → k ≤ j → get_or row j 0 ≡ get_or l j 0

-- Where an entry of the list at the front of a table lies, and where one of the table's own.
filled_front : (l t : List ℕ) (j : ℕ) → j < length l → get_or (filled l t) j 0 ≡ get_or l j 0
filled_front l t j h = get_or-append l (drop (length l) t) 0 j h

filled_past : (l t : List ℕ) (j : ℕ) → length l ≤ j → get_or (filled l t) j 0 ≡ get_or t j 0
filled_past l t j h =
    let e : length l + (j - length l) ≡ j = omega arith in
    ap (λ z. get_or (filled l t) z 0) (sym e) ∙ get_or-append-add l (drop (length l) t) (j - length l) 0
    ∙ get_or-drop (length l) t (j - length l) 0
    ∙ ap (λ z. get_or t z 0) e

module _ {f : ℕ → ℕ} {l : List ℕ} where
  pub walk_none : Walked f l 0 l
  walk_none = record { so_far = zero-le; len = refl; new = λ j h. absurd (omega arith); old = λ j h. refl }

  module _ {k : ℕ} {row : List ℕ} (w : Walked f l k row) where
    pub walk_at : get_or row k 0 ≡ get_or l k 0
    walk_at = w.old k (omega arith)

    pub walk_more : {v : ℕ} → k < length l → v ≡ f k → Walked f l (k + 1) (set row k v)
    walk_more {v} h e =
        record {
          so_far = omega arith;
          len = simp length-set w.len;
          new =
              λ j b.
              ⊎_elim (λ (q : j ≡ k). rw q (get_or-set_same row k v 0 (omega arith) ∙ e))
              (λ (q : j < k). get_or-set_other row k j v 0 (λ q'. omega arith) ∙ w.new j q)
              (eq-or-lt_of_le (omega arith));
          old = λ j b. get_or-set_other row k j v 0 (λ q. omega arith) ∙ w.old j (omega arith);
        }

    pub walk_all : length l ≤ k → row ≡ tab_from 0 (length l) f
    walk_all h = tab_of 0 (length l) f row w.len (λ j b. w.new j (omega arith))

    pub walk_filled : (n : ℕ) → k ≡ n → row ≡ filled (tab_from 0 n f) l
    walk_filled n e =
        let t = tab_from 0 n f in
        let m : length t ≡ n = tab_length 0 n f in
        ext_get_or 0 row (filled t l)
        (w.len ∙ sym (length-append t (drop (length t) l) ∙ rw (length-drop (length t) l, m) (omega (arith, w.so_far))))
        (λ j b.
        ⊎_elim
        (λ (q : j < n). w.new j (omega arith) ∙ sym (filled_front t l j (omega arith) ∙ tab_at n f 0 j q))
        (λ (q : n ≤ j). w.old j (omega arith) ∙ sym (filled_past t l j (omega arith)))
        (below j n))

-- In a list of m zeros.
module _ {f : ℕ → ℕ} (m : ℕ) {k : ℕ} {row : List ℕ} (w : Walked f (replicate m 0) k row) where
  pub walk_size : length row ≡ m
  walk_size = w.len ∙ length-replicate {A = ℕ} m 0

  pub walk_on : {v : ℕ} → k < m → v ≡ f k → Walked f (replicate m 0) (k + 1) (set row k v)
  walk_on h e = walk_more w (omega (arith, length-replicate {A = ℕ} m 0)) e

-- A copy of r in a list of zeros.
pub walk_copy : (m : ℕ) (r : List ℕ) {k : ℕ} {p : List ℕ} → Walked (λ j. get_or r j 0) (replicate m 0) k p → length r ≤ k → (j : ℕ) → get_or p j 0 ≡ get_or r j 0
walk_copy m r {k} {p} w e j =
    dite (dec_lt j k) (λ h. w.new j h)
    (λ h. let g : k ≤ j = omega arith in w.old j g ∙ get_d_zeros m j ∙ sym (get_or-eq_default r 0 (omega arith)))

-- The numbers before the first that is put in stay.
pub walk_from : {f : ℕ → ℕ} {l : List ℕ} (k : ℕ) → k ≤ length l → ((j : ℕ) → j < k → get_or l j 0 ≡ f j) → Walked f l k l
walk_from k h e = record { so_far = h; len = refl; new = e; old = λ j b. refl }
