-- Parts of a table that lies in one list, and what a part that is lent and comes back leaves.
use mathlib.Core.Path.{◌≡◌, refl, sym, ap, ◌∙◌}
use mathlib.Core.Logic.{dite}
use mathlib.Core.Bool.{Bool}
use mathlib.Core.List.{List, ◌++◌}
use Prim.Native.Nat.{ℕ, ◌+◌, ◌-◌, ◌*◌, ◌≤◌, ◌<◌}
use native.Mathlib.Nat.{mul-le-mul_right}
use native.Mathlib.Decide.{dec_lt}
use native.Mathlib.Omega.{arith}
use lib.ListN.{length, get_or, take, drop, length-drop, get_or-append}
use lib.Seq.{length-take-le, take_at, drop_at, ext_get_or, get_or-take, get_or-drop, drop-drop}
use borrow.Rule.Slice.PartMut.{put_mid, drop_put, same_len_mid}
use Rattle.meaning.specs.Row.{Row, width}
use Rattle.meaning.specs.Refusal.{work_size}
use Rattle.std.specs.Prelude.{Option}
use Rattle.elimination.specs.Packed.{states_of, unpacked, Packed}
use Rattle.elimination.specs.Row.{Became}
use Rattle.elimination.specs.Table.{part_at, Kept, Put, Placed}
use Rattle.elimination.specs.Gather.{Changed}

pub kept_same : (n : ℕ) (w : List ℕ) → Kept n w w
kept_same n w = record { len = refl; past = refl }

pub kept_more : {n : ℕ} {w v u : List ℕ} → Kept n w v → Kept n v u → Kept n w u
kept_more k l = record { len = l.len ∙ k.len; past = l.past ∙ k.past }

pub row_end : (i n : ℕ) → i < n → i * width n + width n ≤ work_size n
row_end i n h = omega (arith, mul-le-mul_right (width n) h)

-- The list with r in the place of the part of row i.
unfoldable with_row : ℕ → List ℕ → ℕ → List ℕ → List ℕ
with_row n w i r = take (i * width n) w ++ (r ++ drop (width n) (drop (i * width n) w))

mid_drop : (a m : ℕ) (w r : List ℕ) → length r ≡ m → a + m ≤ length w → drop (a + m) (put_mid a m w r) ≡ drop (a + m) w
mid_drop a m w r l h =
    let k : a + m - a ≡ m = omega arith in
    rw k at (drop_put a (a + m) w r (omega arith) h (omega arith))

-- Row i, which begins at a, as it is lent, and the table as it comes back.
module _ (n i a : ℕ) (p : a ≡ i * width n) (w : List ℕ) where
  pub lent : take (a + n + 4 - a) (drop a w) ≡ part_at n w i
  unfolding part_at
  lent = let k : a + n + 4 - a ≡ width n = omega arith in rw (k, p)

  back : (r : List ℕ) → put_mid a (a + n + 4 - a) w r ≡ with_row n w i r
  unfolding with_row
  back r = let k : a + n + 4 - a ≡ width n = omega arith in rw (k, p)

-- The number in column j of row i.
pub row_cell : (n : ℕ) (w : List ℕ) (i j : ℕ) → j < width n → get_or (part_at n w i) j 0 ≡ get_or w (i * width n + j) 0
unfolding part_at
row_cell n w i j h = get_or-take (width n) (drop (i * width n) w) j 0 h ∙ get_or-drop (i * width n) w j 0

module _ (n : ℕ) (w : List ℕ) (room : work_size n ≤ length w) (i : ℕ) (b : i < n) where
  pub length_row : length (part_at n w i) ≡ width n
  unfolding part_at
  length_row =
      length-take-le (width n) (drop (i * width n) w) (simp length-drop (omega (arith, row_end i n b)))

  -- So it is of n states.
  pub states_row : states_of (part_at n w i) ≡ n
  states_row = omega (arith, length_row)

  module _ (r : List ℕ) (l : length r ≡ width n) where
    at_start : length (take (i * width n) w) ≡ i * width n
    at_start = length-take-le (i * width n) w (omega (arith, row_end i n b))

    row_same : part_at n (with_row n w i r) i ≡ r
    unfolding part_at with_row
    row_same =
        ap (take (width n)) (drop_at (take (i * width n) w) (r ++ drop (width n) (drop (i * width n) w)) (i * width n) at_start)
        ∙ take_at r (drop (width n) (drop (i * width n) w)) (width n) l

    length_with : length (with_row n w i r) ≡ length w
    unfolding with_row
    length_with =
        same_len_mid (i * width n) (width n) w r
        (l ∙ sym (length-take-le (width n) (drop (i * width n) w) (simp length-drop (omega (arith, row_end i n b)))))

    before_row : (k : ℕ) → k < i * width n → get_or (with_row n w i r) k 0 ≡ get_or w k 0
    unfolding with_row
    before_row k h =
        get_or-append (take (i * width n) w) (r ++ drop (width n) (drop (i * width n) w)) 0 k (rw at_start h)
        ∙ get_or-take (i * width n) w k 0 h

    after_row : drop (i * width n + width n) (with_row n w i r) ≡ drop (i * width n + width n) w
    unfolding with_row
    after_row = mid_drop (i * width n) (width n) w r l (omega (arith, row_end i n b))

    from_row : (k : ℕ) → i * width n + width n ≤ k → get_or (with_row n w i r) k 0 ≡ get_or w k 0
    from_row k h =
        let e = i * width n + width n in
        let q : k ≡ i * width n + width n + (k - (i * width n + width n)) = omega arith in
        ap (λ (x : ℕ). get_or (with_row n w i r) x 0) q
        ∙ sym (get_or-drop e (with_row n w i r) (k - e) 0)
        ∙ ap (λ (x : List ℕ). get_or x (k - e) 0) after_row
        ∙ get_or-drop e w (k - e) 0
        ∙ ap (λ (x : ℕ). get_or w x 0) (sym q)

row_other : (n : ℕ) (w : List ℕ) (room : work_size n ≤ length w) (i : ℕ) (b : i < n) (r : List ℕ) (l : length r ≡ width n) (j : ℕ) → j < n
    → (j ≡ i → ⊥) → part_at n (with_row n w i r) j ≡ part_at n w j
row_other n w room i b r l j c d =
    let v = with_row n w i r in
    let room' : work_size n ≤ length (with_row n w i r) = rw (length_with n w room i b r l) room in
    ext_get_or 0 (part_at n v j) (part_at n w j) (length_row n v room' j c ∙ sym (length_row n w room j c))
    (λ k h.
    let h' : k < width n = omega (arith, length_row n v room' j c) in
    row_cell n v j k h'
    ∙ dite (dec_lt j i) (λ z. before_row n w room i b r l (j * width n + k) (omega (arith, mul-le-mul_right (width n) z)))
    (λ z.
    let z' : i < j = omega arith in
    from_row n w room i b r l (j * width n + k) (omega (arith, mul-le-mul_right (width n) z')))
    ∙ sym (row_cell n w j k h'))

drop_past : (e m : ℕ) (v w : List ℕ) → e ≤ m → drop e v ≡ drop e w → drop m v ≡ drop m w
drop_past e m v w h q =
    let k : e + (m - e) ≡ m = omega arith in
    rw k at (sym (drop-drop (m - e) e v) ∙ ap (drop (m - e)) q ∙ drop-drop (m - e) e w)

-- The table with the numbers q in the place of row i.
changed_with : (n : ℕ) (w : List ℕ) (room : work_size n ≤ length w) (i : ℕ) (b : i < n) (q : List ℕ) → length q ≡ width n → Changed n w i q (with_row n w i q)
changed_with n w room i b q l =
    record {
      kept = record {
        len = length_with n w room i b q l;
        past = drop_past (i * width n + width n) (work_size n) (with_row n w i q) w (row_end i n b) (after_row n w room i b q l);
      };
      here = row_same n w room i b q l;
      other = row_other n w room i b q l;
    }

put_with : (n : ℕ) (w : List ℕ) (room : work_size n ≤ length w) (i : ℕ) (b : i < n) (q : List ℕ) {r : Row} → Packed n q → unpacked n q ≡ r → Put n w i r (with_row n w i q)
put_with n w room i b q h e =
    let z = changed_with n w room i b q h.size in
    record { kept = z.kept; packed = rw z.here h; here = rw z.here e; other = z.other }

-- A part that was lent as `lent` says, has become q, and is back.
pub row_changed : (n : ℕ) (w : List ℕ) (room : work_size n ≤ length w) (i : ℕ) (h : i < n) (a : ℕ) (p : a ≡ i * width n) (q : List ℕ) → length q ≡ width n
    → Changed n w i q (put_mid a (a + n + 4 - a) w q)
row_changed n w room i h a p q l = rw (back n i a p w q) (changed_with n w room i h q l)

-- The same of a packed row, which stands for r.
pub row_placed : (n : ℕ) (w : List ℕ) (room : work_size n ≤ length w) (i : ℕ) (h : i < n) (a : ℕ) (p : a ≡ i * width n) {b : Bool} {q : List ℕ} {r : Row} {taken : ℕ} {answer : Option ℕ}
    → Became b n r taken q answer → Placed b n w i r taken (put_mid a (a + n + 4 - a) w q) answer
row_placed n w room i h a p {q = q} z =
    record {
      put = rw (back n i a p w q) (put_with n w room i h q z.packed z.same);
      tested = z.tested;
    }
