-- A removal, a turn and the walk: the rows of the table stand for the definition's after each position.
use Rattle.std.proofs.Common.{◌≡◌, ℕ, suc, ◌+◌, ◌^◌, ◌<◌, ◌≤◌, Bool, true, false, ltb, List, get_or, replicate, sym, refl, ap, ◌∙◌, subst, ⊎_elim, add-one, arith, lt-ltb}
use lib.ListN.{length-replicate, get_or-replicate}
use Rattle.meaning.specs.Number.{sum_to, only, choose}
use Rattle.meaning.specs.Chain.{Chain}
use Rattle.meaning.specs.Row.{cell}
use Rattle.meaning.specs.Step.{Table, row, Sets, no_row, goes}
use Rattle.meaning.specs.Near.{digits, near_outside, made_anew, near_removed, near_stage, rows_made}
use Rattle.theory.specs.Numbers.Sum.{same, below, sum_ext}
use Rattle.theory.specs.Numbers.Binary.{digits_none}
use Rattle.theory.specs.Stages.NearStep.{no_cell, removes, anew_some, anew_none, new_is, old_is}
use Rattle.chain.specs.declared.Chain.{Chain as Frame}
use Rattle.elimination.specs.Table.{part_at}
use Rattle.elimination.proofs.Tables.{kept_same, kept_more}
use Rattle.near.specs.Word.{word, value}
use Rattle.near.specs.Row.{value_at, settled_words, replaced_words}
use Rattle.near.specs.Step.{renews, pivot_at, sum_of, RemovedWords}
use Rattle.near.specs.Table.{Stands, most_digits, Worded}
use Rattle.near.specs.Walk.{Turned, Walkable, Walked}
use Rattle.near.proofs.Words.{value_none, word_none}
use Rattle.near.proofs.Standing.{word_zero, word_above}
use Rattle.near.proofs.Linked.{Wordy, new_stands, stage_wordy, stage_outside}
use Rattle.near.proofs.Steps.{renewed_none, renewed_some}

-- A row of zeros stands for one that is not kept.
zeros_stand : (n most : ℕ) → Stands (n + 4) (cell (no_row n)) (replicate (n + 4) 0) most
zeros_stand n most =
    let nought : ℕ = 0 in
    let zero : (j : ℕ) → j < n + 4 → get_or (replicate (n + 4) nought) j 0 ≡ nought = λ j h. get_or-replicate (n + 4) j 0 0 h in
    let at : (j : ℕ) → j < n + 4 → value_at (replicate (n + 4) 0) j ≡ 0 = λ j h. ap value (zero j h) ∙ value_none in
    record {
      wide = length-replicate (n + 4) 0;
      down = 0;
      up = 0;
      alike = λ j h. rw (at j h, no_cell n j h) refl;
      proper = λ j h. zero j h ∙ sym (ap word (at j h) ∙ word_none);
      few = λ j h. rw (at j h) (omega (arith, digits_none));
    }

module _ {n : ℕ} {g : ℕ → ℕ} {u : List ℕ} (p : ℕ) (S : Stands n g u (most_digits p)) where
  stands_next : Stands n g u (most_digits (suc p))
  stands_next =
      record { wide = S.wide; down = S.down; up = S.up; alike = S.alike; proper = S.proper; few = λ j h. omega (arith, S.few j h) }

module _ (m : Chain) (k : Sets) (o : List ℕ) (a : Walkable m k o) (p : ℕ) (h : p < m.states) {w : List ℕ}
    (W : Worded m.states p (near_stage m k o p) w)
  where
    abbrev n : ℕ
    n = m.states

    abbrev t : Table
    t = near_stage m k o p

    abbrev s : ℕ
    s = get_or o p 0

    inside : s < n
    inside = a.ready.orders p h

    wordy : (i : ℕ) → i < n → Wordy (n + 4) (row t i)
    wordy i l = stage_wordy m k o a.ready a.few a.small p (omega arith) i l

    low : digits (near_outside n s (row t s)) ≤ 2111
    low = stage_outside m k o a.ready a.few a.small p (omega arith) s inside

    most_few : most_digits p ≤ 2 ^ 19
    most_few = omega (arith, a.few)

    none : (i : ℕ) → i < n → cell (row t i) s ≡ 0 → get_or (part_at n w i) s 0 ≡ 0
    none i l e = word_zero (W.rows i l) s (omega (arith, inside)) e

    some : (i : ℕ) → i < n → 0 < cell (row t i) s → 0 < get_or (part_at n w i) s 0
    some i l e = word_above (W.rows i l) s (omega (arith, inside)) (omega (arith, most_few)) e

    -- A row of words is made anew exactly where the definition's is.
    renews_is : (i : ℕ) → i < n → only (renews s i (part_at n w i)) 1 ≡ only (made_anew s i (row t i)) 1
    renews_is i l =
        let e : ltb 0 (get_or (part_at n w i) s 0) ≡ ltb 0 (cell (row t i) s) =
        ⊎_elim
        (λ (x : 0 < cell (row t i) s). lt-ltb 0 (get_or (part_at n w i) s 0) (some i l x) ∙ sym (lt-ltb 0 (cell (row t i) s) x))
        (λ (x : cell (row t i) s ≤ 0). let z : cell (row t i) s ≡ 0 = omega arith in rw (none i l z, z) refl)
        (below 0 (cell (row t i) s)) in
        rw e refl

    module _ {v : List ℕ} {rows : ℕ} (R : RemovedWords n s w v rows) where
      abbrev pivot : List ℕ
      pivot = settled_words (pivot_at n s w)

      abbrev After : ℕ → Type 0
      After i = Stands (n + 4) (cell (row (near_removed n s t) i)) (part_at n v i) (most_digits (suc p))

      -- Its own row, a row with no weight to it, and one that is made anew.
      own_row : (i : ℕ) → i < n → i ≡ s → After i
      own_row i l e =
          let gone : row (near_removed n s t) i ≡ no_row n =
          removes n s t (λ r. i ≡ s → r ≡ no_row n) i l (λ _. refl) (λ d _ q. absurd (d q)) (λ d _ q. absurd (d q)) e in
          let zeros : part_at n v i ≡ replicate (n + 4) 0 = rw e R.own in
          rw (gone, zeros) (zeros_stand n (most_digits (suc p)))

      old_row : (i : ℕ) → i < n → (i ≡ s → ⊥) → cell (row t i) s ≡ 0 → After i
      old_row i l d e =
          let kept : part_at n v i ≡ part_at n w i =
          R.new i l d ∙ (renewed_none s (sum_of pivot) pivot (part_at n w i) (none i l e)).0 in
          rw (kept, old_is n s t i l d (anew_none n s t i d e)) (stands_next p (W.rows i l))

      new_row : (i : ℕ) → i < n → (i ≡ s → ⊥) → 0 < cell (row t i) s → After i
      new_row i l d e =
          let made : part_at n v i ≡ replaced_words s (sum_of pivot) pivot (part_at n w i) =
          R.new i l d ∙ (renewed_some s (sum_of pivot) pivot (part_at n w i) (some i l e)).0 in
          let S = new_stands n s (row t s) (row t i) inside (wordy s inside) (wordy i l) low (part_at n w s) (part_at n w i) (most_digits p) most_few (W.rows s inside) (W.rows i l) in
          let most : most_digits p + 2150 ≡ most_digits (suc p) = omega arith in
          rw (made, new_is n s t i l (anew_some n s t i d e), ← most) S

      row_removed : (i : ℕ) → i < n → After i
      row_removed i l =
          ⊎_elim
          (λ (e : i ≡ s). own_row i l e)
          (λ (d : i ≡ s → ⊥).
          ⊎_elim (λ (e : 0 < cell (row t i) s). new_row i l d e) (λ (e : cell (row t i) s ≤ 0). old_row i l d (omega arith)) (below 0 (cell (row t i) s)))
          (same i s)

      pub removed_worded : Worded n (suc p) (near_removed n s t) v
      removed_worded = record { rows = row_removed }

      pub removed_rows : rows ≡ sum_to (λ i. only (made_anew s i (row t i)) 1) n
      removed_rows = R.count ∙ sum_ext _ _ n (λ i l. renews_is i l)

    -- A turn of the state at this position.
    pub turned_worded : {v : List ℕ} {rows : ℕ} → Turned n (goes m.start k.live s) s w v rows
        → Worded n (suc p) (near_stage m k o (suc p)) v × (rows + rows_made m k o p ≡ rows_made m k o (suc p))
    unfolding near_stage rows_made
    turned_worded {v} {rows} T = go (goes m.start k.live s) refl
      where
        go : (g : Bool) → goes m.start k.live s ≡ g
            → Worded n (suc p) (choose g (near_removed n s t) t) v × (rows + rows_made m k o p ≡ rows_made m k o p + only g (sum_to (λ i. only (made_anew s i (row t i)) 1) n))
        go true e = let R = T.gone e in (removed_worded R, omega (arith, removed_rows R))
        go false e = let z = T.stays e in (subst (Worded n (suc p) t) (sym z.0) (record { rows = λ i l. stands_next p (W.rows i l) }), omega (arith, z.1))

pub walked_none : {c : Frame} {live : ℕ} {o w : List ℕ} → Walked c live o 0 w w 0
unfolding rows_made
walked_none = record { so_far = omega arith; kept = kept_same _ _; few = omega arith; worded = λ d e g a W. (W, refl) }

pub walked_more : {c : Frame} {live : ℕ} {o w v u : List ℕ} {p rows more : ℕ} → Walked c live o p w v rows → p < c.states
    → Turned c.states (goes c.start live (get_or o p 0)) (get_or o p 0) v u more → Walked c live o (p + 1) w u (rows + more)
walked_more {c} {live} {o} {w} {v} {u} {p} {rows} {more} z h T =
    record {
      so_far = omega arith;
      kept = kept_more z.kept T.kept;
      few = omega (arith, z.few, T.few);
      worded = λ d e g a W.
          let x = z.worded d e g a W in
          let y = turned_worded _ _ o a p h x.0 T in
          rw add-one (y.0, omega (arith, x.1, y.1));
    }

pub walked_all : {c : Frame} {live : ℕ} {o w v : List ℕ} {p rows : ℕ} → Walked c live o p w v rows → c.states ≤ p → Walked c live o c.states w v rows
walked_all {c} {p = p} z h = let e : p ≡ c.states = omega (arith, z.so_far) in rw e at z
