-- The bytes of a whole block, summed by columns.
use Prim.Native.Nat.{ℕ, zero, suc, ◌+◌, ◌*◌, ◌-◌, ◌%◌, ◌≤◌, ◌<◌}
use mathlib.Core.Path.{◌≡◌, refl, sym, ap, subst, subst₂, ◌∙◌}
use mathlib.Core.List.{List, [], ◌∷◌, ◌++◌}
use native.Mathlib.Nat.{le_refl}
use native.Mathlib.Numerals.{add-one}
use native.Mathlib.Omega.{arith}
use lib.ListN.{length, get_or, set, drop, replicate, length-replicate, length-append, length-drop}
use lib.ListN.{get_or-append}
use lib.Seq.{get_or-drop, drop_at, drop-drop}
use Rattle.std.specs.List.{fold, sum}
use Rattle.meaning.specs.Number.{sum_to}
use Rattle.meaning.specs.Block.{first_sum, second_sum, checked_bytes}
use Rattle.theory.specs.Numbers.Sum.{sum_ext, sum_add, sum_zero, sum_next}
use Rattle.theory.specs.Numbers.Tab.{get_d_zeros}
use Rattle.fletcher.specs.Columns.{rows, columns, Low, RowAdded}
use Rattle.fletcher.proofs.Summed.{Summed, none as none_summed, run, all as all_summed}
use Rattle.theory.specs.Numbers.Walk.{Walked, walk_none, walk_more}

-- Of the first c columns: the sum of their numbers, each at most so large.
pub record Totalled (f : ℕ → ℕ) (most c sum : ℕ) : Type 0 where
  pub upto : c ≤ columns
  pub is : sum ≡ sum_to f c
  pub low : sum ≤ most * c

module _ {f : ℕ → ℕ} {most : ℕ} where
  pub none : Totalled f most 0 0
  unfolding sum_to
  none = record { upto = omega arith; is = refl; low = omega arith }

  pub more : {c sum x : ℕ} → Totalled f most c sum → c < columns → x ≡ f c → x ≤ most → Totalled f most (c + 1) (sum + x)
  more {c} {sum} {x} g h e l =
      record { upto = omega arith; is = omega (arith, g.is, sum_next f c (c + 1) (add-one c)); low = omega (arith, g.low) }

  pub all : {c sum : ℕ} → Totalled f most c sum → columns ≤ c → sum ≡ sum_to f columns
  all {c} g h = g.is ∙ ap (sum_to f) (omega (arith, g.upto))

-- The sum of a list, number by number.
sum_front : (x : ℕ) (l : List ℕ) (n : ℕ) → sum_to (λ c. get_or (x ∷ l) c 0) (suc n) ≡ x + sum_to (λ c. get_or l c 0) n
unfolding sum_to
sum_front x l zero = omega arith
sum_front x l (suc n) = omega (arith, sum_front x l n)

sum_after : (l : List ℕ) (a : ℕ) → fold (λ s x. s + x) a l ≡ a + sum_to (λ c. get_or l c 0) (length l)
sum_after [] a = omega (arith, sum_zero (λ c. get_or {A = ℕ} [] c 0) 0 (λ j h. refl))
sum_after (x ∷ l) a = sum_after l (a + x) ∙ omega (arith, sum_front x l (length l))

pub sum_listed : (l : List ℕ) → length l ≡ columns → sum l ≡ sum_to (λ c. get_or l c 0) columns
sum_listed l e = sum_after l 0 ∙ omega arith ∙ ap (sum_to (λ c. get_or l c 0)) e

-- The first c columns have one row more, the others wait for it.
pub record Adding (row plain₀ sums₀ : List ℕ) (c : ℕ) (plain sums : List ℕ) : Type 0 where
  pub upto : c ≤ columns
  pub plainly : Walked (λ j. get_or plain₀ j 0 + get_or row j 0) plain₀ c plain
  pub summed : Walked (λ j. get_or sums₀ j 0 + (get_or plain₀ j 0 + get_or row j 0)) sums₀ c sums

module _ {row plain₀ sums₀ : List ℕ} where
  pub none_added : Adding row plain₀ sums₀ 0 plain₀ sums₀
  none_added = record { upto = omega arith; plainly = walk_none; summed = walk_none }

  module _ {c : ℕ} {plain sums : List ℕ} (g : Adding row plain₀ sums₀ c plain sums) where
    -- The next column still has what it had.
    pub low_plain : {most : ℕ} → c < columns → Low most plain₀ → get_or plain c 0 ≤ most
    low_plain h p = omega (arith, g.plainly.old c (le_refl c), p.low c h)

    pub low_sums : {most : ℕ} → c < columns → Low most sums₀ → get_or sums c 0 ≤ most
    low_sums h s = omega (arith, g.summed.old c (le_refl c), s.low c h)

    pub more_added : {b most most' : ℕ} → c < columns → Low most plain₀ → Low most' sums₀ → b ≡ get_or row c 0
        → Adding row plain₀ sums₀ (c + 1) (set plain c (get_or plain c 0 + b)) (set sums c (get_or sums c 0 + (get_or plain c 0 + b)))
    more_added {b} h p s e =
        let old = g.plainly.old c (le_refl c) in
        record {
          upto = omega arith;
          plainly = walk_more g.plainly (omega (arith, p.size)) (omega arith);
          summed = walk_more g.summed (omega (arith, s.size)) (omega (arith, g.summed.old c (le_refl c)));
        }

    pub all_added : columns ≤ c → {most most' : ℕ} → Low most plain₀ → Low most' sums₀ → RowAdded row plain₀ sums₀ plain sums
    all_added h p s =
        record {
          sizes = (g.plainly.len ∙ p.size, g.summed.len ∙ s.size);
          plainly = λ j l. g.plainly.new j (omega arith);
          summed = λ j l. omega (arith, g.summed.new j (omega arith), g.plainly.new j (omega arith));
        }

wider : {a b : ℕ} {numbers : List ℕ} → Low a numbers → a ≤ b → Low b numbers
wider l h = record { size = l.size; low = λ c b. omega (arith, l.low c b) }

-- Each number as often as numbers stand from it on, and once for each before it.
staircase : (g : ℕ → ℕ) (w : ℕ) → sum_to (λ c. sum_to g (suc c)) w + sum_to (λ c. c * g c) w ≡ w * sum_to g w
unfolding sum_to
staircase g zero = omega arith
staircase g (suc w) = omega (arith, staircase g w)

-- The sum of all columns, and the same with each as often as columns lie before it.
abbrev whole : List ℕ → ℕ
whole numbers = sum_to (λ c. get_or numbers c 0) columns

abbrev by_place : List ℕ → ℕ
by_place numbers = sum_to (λ c. c * get_or numbers c 0) columns

-- After r rows: Fletcher's sums so far, out of those of the columns.
pub record Laid (m s : ℕ) (f : ℕ → ℕ) (r : ℕ) (plain sums : List ℕ) : Type 0 where
  pub upto : r ≤ rows
  pub plain_low : Low (255 * r) plain
  pub sums_low : Low (1275 * r) sums
  pub second : ℕ
  pub summed : Summed m s f checked_bytes (columns * r) (s + whole plain) second
  pub second_is : second + by_place plain ≡ s + s * (columns * r) + whole sums * columns

module _ {m s : ℕ} {f : ℕ → ℕ} where
  pub none_laid : s < m → m < 65536 → Laid m s f 0 (replicate columns 0) (replicate columns 0)
  none_laid h l =
      let zero-low : Low 0 (replicate columns 0) = record { size = length-replicate {A = ℕ} columns 0; low = λ c b. omega (arith, get_d_zeros columns c) } in
      let w : whole (replicate columns 0) ≡ 0 = sum_zero _ columns (λ c b. get_d_zeros columns c) in
      let p : by_place (replicate columns 0) ≡ 0 = sum_zero _ columns (λ c b. ap (λ z. c * z) (get_d_zeros columns c) ∙ omega arith) in
      record {
        upto = omega arith;
        plain_low = zero-low;
        sums_low = zero-low;
        second = s;
        summed = subst (λ z. Summed m s f checked_bytes 0 z s) (omega arith) (none_summed h l);
        second_is = omega (arith, p, w);
      }

  module _ {r : ℕ} {plain sums : List ℕ} (g : Laid m s f r plain sums) where
    -- The next row finds room in 16 bits.
    pub room : r < rows → Low 1020 plain × Low 5100 sums
    room h = (wider g.plain_low (omega arith), wider g.sums_low (omega arith))

    pub more_laid : {row plain' sums' : List ℕ} → r < rows → RowAdded row plain sums plain' sums'
        → ((c : ℕ) → c < columns → get_or row c 0 ≡ f (columns * r + c)) → ((j : ℕ) → f j < 256) → Laid m s f (r + 1) plain' sums'
    more_laid {row} {plain'} {sums'} h a is bytes =
        let next : ℕ → ℕ = λ c. f (columns * r + c) in
        let here : (c : ℕ) → c < columns → get_or plain' c 0 ≡ get_or plain c 0 + next c = λ c b. omega (arith, a.plainly c b, is c b) in
        let in-plain : whole plain' ≡ whole plain + sum_to next columns = sum_ext _ _ columns here ∙ sum_add _ next columns in
        let in-sums : whole sums' ≡ whole sums + whole plain' = sum_ext _ _ columns a.summed ∙ sum_add _ _ columns in
        let in-places : by_place plain' ≡ by_place plain + sum_to (λ c. c * next c) columns =
        sum_ext _ _ columns (λ c b. ap (λ z. c * z) (here c b) ∙ omega arith) ∙ sum_add _ (λ c. c * next c) columns in
        let stairs : sum_to (λ c. sum_to next (suc c)) columns + sum_to (λ c. c * next c) columns ≡ columns * sum_to next columns = staircase next columns in
        let second' = g.second + (s + whole plain) * columns + sum_to (λ c. sum_to next (suc c)) columns in
        record {
          upto = omega arith;
          plain_low = record { size = a.sizes.0; low = λ c b. omega (arith, here c b, g.plain_low.low c b, bytes (columns * r + c)) };
          sums_low = record { size = a.sizes.1; low = λ c b. omega (arith, a.summed c b, here c b, g.plain_low.low c b, g.sums_low.low c b, bytes (columns * r + c)) };
          second = second';
          summed =
              subst₂ (λ y z. Summed m s f checked_bytes y z second') (omega arith) (omega arith)
              (run g.summed (omega arith) columns (omega arith) (λ c b. bytes (columns * r + c)));
          second_is = omega (arith, g.second_is, in-plain, in-sums, in-places, stairs);
        }

    pub all_laid : {first counted places : ℕ} → rows ≤ r → first ≡ whole plain → counted ≡ whole sums → places ≡ by_place plain
        → let all = s + s * checked_bytes + counted * columns in (places ≤ all)
        × ((s + first) % m ≡ first_sum m s f checked_bytes)
        × ((all - places) % m ≡ second_sum m s f checked_bytes)
    all_laid {first} {counted} {places} h p q t =
        let e : r ≡ rows = omega (arith, g.upto) in
        let begun : s * (columns * r) ≡ s * checked_bytes = ap (λ z. s * (columns * z)) e in
        let both = all_summed g.summed (omega arith) in (
          omega (arith, g.second_is),
          ap (λ z. (s + z) % m) p ∙ both.0,
          ap (λ z. z % m) (omega (arith, g.second_is)) ∙ both.1,
        )

-- Between two rows of a block: those so far are summed, and the others are left.
pub record Turn (m s : ℕ) (block left : List ℕ) (size : ℕ) (plain sums : List ℕ) : Type 0 where
  pub r : ℕ
  pub laid : Laid m s (λ j. get_or block j 0) r plain sums
  pub rest : left ≡ drop (columns * r) block
  pub wide : size ≡ columns

module _ {m s : ℕ} {block : List ℕ} (whole-block : length block ≡ checked_bytes) where
  pub first_turn : {left : List ℕ} {size : ℕ} → s < m → m < 65536 → left ≡ block → size ≡ columns
      → Turn m s block left size (replicate columns 0) (replicate columns 0)
  first_turn h l e w = record { r = 0; laid = none_laid h l; rest = e; wide = w }

  module _ {left : List ℕ} {size : ℕ} {plain sums : List ℕ} (t : Turn m s block left size plain sums) where
    rows_left : length left + columns * t.r ≡ checked_bytes
    rows_left = rw t.rest (omega (arith, length-drop (columns * t.r) block, t.laid.upto))

    module _ (row left' : List ℕ) (cut : left ≡ row ++ left') (full : length row ≡ size) where
      not_last : t.r < rows
      not_last = omega (arith, rows_left, ap length cut, length-append row left', full, t.wide)

      pub turn_room : (length row ≡ columns) × Low 1020 plain × Low 5100 sums
      turn_room = let l = room t.laid not_last in (full ∙ t.wide, l.0, l.1)

      pub next_turn : {size' : ℕ} {plain' sums' : List ℕ} → size' ≡ size → RowAdded row plain sums plain' sums' → ((j : ℕ) → get_or block j 0 < 256)
          → Turn m s block left' size' plain' sums'
      next_turn e a bytes =
          let at : (c : ℕ) → c < columns → get_or row c 0 ≡ get_or block (columns * t.r + c) 0 =
          λ c h. sym (get_or-append row left' 0 c (omega (arith, full, t.wide))) ∙ ap (λ z. get_or z c 0) (sym cut ∙ t.rest) ∙ get_or-drop (columns * t.r) block c 0 in
          record {
            r = t.r + 1;
            laid = more_laid t.laid not_last a at bytes;
            rest = sym (drop_at row left' size full) ∙ ap (drop size) (sym cut ∙ t.rest) ∙ drop-drop size (columns * t.r) block ∙ ap (λ z. drop z block) (omega (arith, t.wide));
            wide = e ∙ t.wide;
          }

    pub last_turn : length left < size → rows ≤ t.r
    last_turn h = omega (arith, rows_left, t.wide)
