-- The numbers of a table by row and column: a table of zeros, one number changed, and weights gathered turn by turn.
use mathlib.Core.Path.{◌≡◌, refl, sym, ap, ◌∙◌}
use mathlib.Core.Logic.{dite, ⊎_elim}
use mathlib.Core.Bool.{Bool, true, false}
use mathlib.Core.List.{List, ◌++◌}
use Prim.Native.Nat.{ℕ, ◌+◌, ◌-◌, ◌*◌, ◌≤◌, ◌<◌, min}
use native.Mathlib.Nat.{mul-le-mul_right, mul-one, mul-zero}
use native.Mathlib.Numerals.{add-one}
use native.Mathlib.Decide.{dec_lt}
use native.Mathlib.Omega.{arith}
use Rattle.std.proofs.Math.Nat.{min-eq_left}
use lib.Dec.{eqb}
use lib.ListN.{length, get_or, take, drop, set, replicate, length-set, length-append, length-drop, length-replicate, get_or-replicate, take-append-drop, get_or-append}
use lib.Seq.{length-take-le, get_or-take, ext_get_or, drop_at, get_or-set_same, get_or-set_other, take-set-le, take-set-lt, drop-set-lt, drop-set-add}
use borrow.Author.Tests.{eq-eqb, ne_eqb}
use Rattle.meaning.specs.Number.{sum_to, only, bit}
use Rattle.meaning.specs.Chain.{most_states, M, edge_count, from, to, weight, carried, flow, row_sum}
use Rattle.meaning.specs.Row.{Row, cell, width}
use Rattle.meaning.specs.Refusal.{work_size}
use Rattle.meaning.specs.Step.{Sets}
use Rattle.theory.specs.Numbers.Sum.{same, sum_le, sum_next, sum_up}
use Rattle.elimination.specs.Table.{part_at, Kept}
use Rattle.elimination.specs.Gather.{column_of, share, Changed, Added, Held, Addable}
use Rattle.elimination.proofs.Tables.{kept_same, kept_more, row_end, row_cell, length_row}

-- The number in column j of row i.
module _ (n : ℕ) (w : List ℕ) (i : ℕ) (b : i < n) (j : ℕ) (h : j < width n) where
  changed_other : (x k : ℕ) → k < n → (k ≡ i → ⊥) → part_at n (set w (i * width n + j) x) k ≡ part_at n w k
  unfolding part_at
  changed_other x k l d =
      dite (dec_lt k i)
      (λ z.
      let s : ℕ = i * width n + j - k * width n in
      let g : width n ≤ s = omega (arith, row_end k i z, mul-le-mul_right (width n) z) in
      let q : i * width n + j ≡ k * width n + s = omega (arith, mul-le-mul_right (width n) z) in
      ap (λ (p : ℕ). take (width n) (drop (k * width n) (set w p x))) q
      ∙ ap (take (width n)) (drop-set-add (k * width n) w s x)
      ∙ take-set-le (width n) (drop (k * width n) w) s x g)
      (λ z.
      let z' : i < k = omega arith in
      ap (take (width n)) (drop-set-lt (k * width n) w (i * width n + j) x (omega (arith, mul-le-mul_right (width n) z'))))

  pub changed_cell : (x : ℕ) → Changed n w i (set (part_at n w i) j x) (set w (i * width n + j) x)
  unfolding part_at
  changed_cell x =
      record {
        kept = record {
          len = length-set w (i * width n + j) x;
          past = drop-set-lt (work_size n) w (i * width n + j) x (omega (arith, row_end i n b));
        };
        here = ap (take (width n)) (drop-set-add (i * width n) w j x) ∙ take-set-lt (width n) (drop (i * width n) w) j x h;
        other = changed_other x;
      }

-- A table whose numbers are all 0 is zero already.
pub fresh_zeros : (m : ℕ) (w : List ℕ) → m ≤ length w → ((q : ℕ) → get_or w q 0 ≡ 0) → w ≡ replicate m 0 ++ drop m w
fresh_zeros m w h z =
    let l : length (take m w) ≡ m = length-take-le m w h in
    let r : length {A = ℕ} (replicate m 0) ≡ m = length-replicate m 0 in
    let e : take m w ≡ replicate m 0 =
    ext_get_or 0 (take m w) (replicate m 0) (l ∙ sym r)
    (λ q b. let c : q < m = omega (arith, l) in get_or-take m w q 0 c ∙ z q ∙ sym (get_or-replicate m q 0 0 c)) in
    sym (take-append-drop m w) ∙ ap (λ (x : List ℕ). x ++ drop m w) e

-- A work table with room for n rows, of which as much was made zero as it has room for.
pub zeros_whole : (n : ℕ) (w : List ℕ) {v : List ℕ} → n ≤ most_states → work_size n ≤ length w
    → (n ≤ most_states → v ≡ replicate (min (work_size n) (length w)) 0 ++ drop (min (work_size n) (length w)) w)
    → v ≡ replicate (work_size n) 0 ++ drop (work_size n) w
zeros_whole n w f r e = rw (min-eq_left r) at (e f)

-- The work table w once its table is zero.
module _ (n : ℕ) (w v : List ℕ) (room : work_size n ≤ length w) (e : v ≡ replicate (work_size n) 0 ++ drop (work_size n) w) where
  pub zeros_kept : Kept n w v
  zeros_kept =
      let size = work_size n in
      let z : length {A = ℕ} (replicate size 0) ≡ size = length-replicate size 0 in
      record {
        len = ap length e ∙ length-append (replicate size 0) (drop size w) ∙ rw (z, length-drop) (omega arith);
        past = ap (drop size) e ∙ drop_at (replicate size 0) (drop size w) size z;
      }

  pub zeros_at : (i j : ℕ) → i < n → j < width n → cell (part_at n v i) j ≡ 0
  zeros_at i j b h =
      let size = work_size n in
      let l : i * width n + j < work_size n = omega (arith, row_end i n b) in
      let z : length {A = ℕ} (replicate size 0) ≡ size = length-replicate size 0 in
      row_cell n v i j h
      ∙ ap (λ (x : List ℕ). get_or x (i * width n + j) 0) e
      ∙ get_or-append (replicate size 0) (drop size w) 0 (i * width n + j) (rw z l)
      ∙ get_or-replicate size (i * width n + j) 0 0 l

pub only_none : (b : Bool) → only b 0 ≡ 0
only_none true = refl
only_none false = refl

only_some : (b : Bool) (x : ℕ) → only b x ≤ x
only_some true x = omega arith
only_some false x = omega arith

-- Where x is added to one number, and `more` says that.
module _ (n : ℕ) (more : ℕ → ℕ → ℕ) (w v : List ℕ) (room : work_size n ≤ length w) (i j x : ℕ) (b : i < n) (h : j < width n) (is : more i j ≡ x)
    (aside : (s : ℕ) → (s ≡ j → ⊥) → more i s ≡ 0) (apart : (r s : ℕ) → (r ≡ i → ⊥) → more r s ≡ 0)
    (p : Changed n w i (set (part_at n w i) j (cell (part_at n w i) j + x)) v)
  where
    row_added : (s : ℕ) → cell (part_at n v i) s ≡ cell (part_at n w i) s + more i s
    row_added s =
        ap (λ (z : Row). cell z s) p.here
        ∙ ⊎_elim
        (λ (q : s ≡ j).
        rw q
        (get_or-set_same (part_at n w i) j (cell (part_at n w i) j + x) 0 (omega (arith, length_row n w room i b)) ∙ omega (arith, is)))
        (λ (q : s ≡ j → ⊥). get_or-set_other (part_at n w i) j s (cell (part_at n w i) j + x) 0 q ∙ omega (arith, aside s q))
        (same s j)

    pub added_one : Added n more w v
    added_one =
        record {
          kept = p.kept;
          cells = λ r s c d.
              ⊎_elim
              (λ (q : r ≡ i). rw q (row_added s))
              (λ (q : r ≡ i → ⊥). ap (λ (z : Row). cell z s) (p.other r c q) ∙ omega (arith, apart r s q))
              (same r i);
        }

pub added_nothing : (n : ℕ) (more : ℕ → ℕ → ℕ) (w : List ℕ) → ((r s : ℕ) → more r s ≡ 0) → Added n more w w
added_nothing n more w none = record { kept = kept_same n w; cells = λ r s c d. omega (arith, none r s) }

-- What is held, and more.
pub held_added : {n : ℕ} {held more : ℕ → ℕ → ℕ} {w v u : List ℕ} → Held n held w v → Added n more v u → Held n (λ i j. held i j + more i j) w u
held_added {more = more} z a =
    record {
      kept = kept_more z.kept a.kept;
      cells = λ i j b h. a.cells i j b h ∙ ap (λ (x : ℕ). x + more i j) (z.cells i j b h);
    }

-- What edge e brings.
module _ (n : ℕ) (k : Sets) (edges : List ℕ) (e : ℕ) where
  share_other : (i j : ℕ) → (from edges e ≡ i → ⊥) → share n k edges i j e ≡ 0
  unfolding share carried
  share_other i j d = rw (ne_eqb (from edges e) i d) (only_none (eqb (bit k.live i) 1))

  pub share_dead : (i j : ℕ) → (bit k.live i ≡ 1 → ⊥) → share n k edges i j e ≡ 0
  unfolding share
  share_dead i j d = rw (ne_eqb (bit k.live i) 1 d)

  pub share_live : (i j : ℕ) → bit k.live i ≡ 1 → share n k edges i j e ≡ carried edges i (λ t. only (eqb (column_of n k t) j) 1) e
  unfolding share
  share_live i j l = rw (eq-eqb (bit k.live i) 1 l)

  share_here : (i j : ℕ) → bit k.live i ≡ 1 → from edges e ≡ i → column_of n k (to edges e) ≡ j → share n k edges i j e ≡ weight edges e
  unfolding share carried
  share_here i j l f t = rw (eq-eqb (bit k.live i) 1 l, eq-eqb (from edges e) i f, eq-eqb (column_of n k (to edges e)) j t) (mul-one (weight edges e))

  share_aside : (i j : ℕ) → (column_of n k (to edges e) ≡ j → ⊥) → share n k edges i j e ≡ 0
  unfolding share carried
  share_aside i j d =
      rw (ne_eqb (column_of n k (to edges e)) j d, mul-zero (weight edges e), only_none (eqb (from edges e) i)) (only_none (eqb (bit k.live i) 1))

  share_le : (i j : ℕ) → share n k edges i j e ≤ carried edges i (λ _. 1) e
  unfolding share carried
  share_le i j =
      ⊎_elim
      (λ (t : column_of n k (to edges e) ≡ j).
      rw (eq-eqb (column_of n k (to edges e)) j t) (only_some (eqb (bit k.live i) 1) (only (eqb (from edges e) i) (weight edges e * 1))))
      (λ (d : column_of n k (to edges e) ≡ j → ⊥).
      rw (ne_eqb (column_of n k (to edges e)) j d, mul-zero (weight edges e), only_none (eqb (from edges e) i), only_none (eqb (bit k.live i) 1)) (omega arith))
      (same (column_of n k (to edges e)) j)

  pub added_none : (w : List ℕ) → (bit k.live (from edges e) ≡ 1 → ⊥) → Added n (λ i j. share n k edges i j e) w w
  added_none w d =
      added_nothing n (λ i j. share n k edges i j e) w
      (λ i j.
      ⊎_elim
      (λ (q : from edges e ≡ i). share_dead i j (λ l. d (rw (← q) at l)))
      (λ (q : from edges e ≡ i → ⊥). share_other i j q)
      (same (from edges e) i))

  pub added_some : (w v : List ℕ) → work_size n ≤ length w → (i j x : ℕ) → i < n → j < width n → bit k.live i ≡ 1 → i ≡ from edges e
      → j ≡ column_of n k (to edges e) → x ≡ weight edges e → Changed n w i (set (part_at n w i) j (cell (part_at n w i) j + x)) v
      → Added n (λ i j. share n k edges i j e) w v
  added_some w v room i j x b h l fi cj wx p =
      added_one n (λ i j. share n k edges i j e) w v room i j x b h
      (share_here i j l (sym fi) (sym cj) ∙ sym wx)
      (λ s q. share_aside i s (λ z. q (sym (cj ∙ z))))
      (λ r s q. share_other r s (λ z. q (sym (fi ∙ z))))
      p

-- Of what is brought to each row and column, in so many turns, that of the first e is added.
pub record Gathering (n : ℕ) (brings : ℕ → ℕ → ℕ → ℕ) (turns : ℕ) (w : List ℕ) (e : ℕ) (v : List ℕ) : Type 0 where
  pub so_far : e ≤ turns
  pub added : Added n (λ i j. sum_to (brings i j) e) w v

module _ {n : ℕ} {brings : ℕ → ℕ → ℕ → ℕ} {turns : ℕ} {w : List ℕ} where
  pub gathering_none : Gathering n brings turns w 0 w
  unfolding sum_to
  gathering_none = record { so_far = omega arith; added = added_nothing n (λ i j. sum_to (brings i j) 0) w (λ i j. refl) }

  module _ {e : ℕ} {v : List ℕ} (g : Gathering n brings turns w e v) where
    pub gathering_more : {u : List ℕ} → e < turns → Added n (λ i j. brings i j e) v u → Gathering n brings turns w (e + 1) u
    gathering_more l a =
        record {
          so_far = omega arith;
          added = record {
            kept = kept_more g.added.kept a.kept;
            cells = λ i j b h. omega (arith, a.cells i j b h, g.added.cells i j b h, sum_next (brings i j) e (e + 1) (add-one e));
          };
        }

    pub gathering_all : turns ≤ e → Added n (λ i j. sum_to (brings i j) turns) w v
    gathering_all l = let q : e ≡ turns = omega (arith, g.so_far) in rw q at g.added

-- A turn is an edge, and the table is zero at first.
module _ (n : ℕ) (k : Sets) (edges w v : List ℕ) (zero : (i j : ℕ) → i < n → j < width n → cell (part_at n w i) j ≡ 0) where
  pub gathering_held : Added n (λ i j. sum_to (share n k edges i j) (edge_count edges)) w v
      → Held n (λ i j. sum_to (share n k edges i j) (edge_count edges)) w v
  gathering_held a = record { kept = a.kept; cells = λ i j b h. omega (arith, a.cells i j b h, zero i j b h) }

  -- What is gathered so far and the next weight are part of a row sum.
  pub gathering_addable : (e : ℕ) → Gathering n (share n k edges) (edge_count edges) w e v → n ≤ 64 → work_size n ≤ length w → e < edge_count edges
      → from edges e < n → to edges e < n → row_sum edges (from edges e) ≤ M → Addable n edges e v
  unfolding flow carried
  gathering_addable e g few room l s t m =
      let i = from edges e in
      record {
        few = few;
        room = omega (arith, g.added.kept.len);
        source = s;
        target = t;
        small = λ j h.
            let q : carried edges i (λ _. 1) e ≡ weight edges e = rw (eq-eqb i i refl) (mul-one (weight edges e)) in
            omega (
              arith,
              m,
              q,
              g.added.cells i j s h,
              zero i j s h,
              sum_le (share n k edges i j) (carried edges i (λ _. 1)) e (λ d _. share_le n k edges d i j),
              sum_up (carried edges i (λ _. 1)) e (edge_count edges) l,
            );
      }

-- What is gathered is part of a row sum, so that what is missing can be added to it.
pub shares_le : (n : ℕ) (k : Sets) (edges : List ℕ) (i j : ℕ) → sum_to (share n k edges i j) (edge_count edges) ≤ row_sum edges i
unfolding flow
shares_le n k edges i j = sum_le (share n k edges i j) (carried edges i (λ _. 1)) (edge_count edges) (λ d _. share_le n k edges d i j)
