-- A row that was gathered by columns in its own part, packed there; and the part of a state for which nothing was gathered.
use Prim.Native.Nat.{ℕ, ◌+◌, ◌≤◌, ◌<◌}
use mathlib.Core.Path.{refl, ◌≡◌, sym, ap, ◌∙◌}
use mathlib.Core.Logic.{⊎_elim}
use mathlib.Core.Bool.{Bool, true}
use mathlib.Core.List.{List}
use native.Mathlib.Omega.{arith}
use lib.Count.{ones}
use lib.ListN.{length, get_or, set, take, replicate, length-set, length-replicate, get_or-eq_default}
use lib.Seq.{ext_get_or, get_or-set_same, get_or-set_other, get_or-take, length-take-le}
use borrow.Author.Tests.{ne_eqb}
use Rattle.meaning.specs.Number.{bit}
use Rattle.meaning.specs.Chain.{most_states}
use Rattle.meaning.specs.Row.{cell, width, reward, goal_column, trap_column, unknown_column, reward_column, rounding}
use Rattle.meaning.specs.Step.{no_row}
use Rattle.theory.specs.Numbers.Sum.{below, sum_ext}
use Rattle.theory.specs.Numbers.Tab.{tab_of, get_d_zeros, tab_zeros}
use Rattle.std.specs.Prelude.{Some}
use Rattle.elimination.specs.Packed.{reward_at, goal_at, trap_at, unknown_at, weights_at, states_of, unpacked, Packed}
use Rattle.elimination.specs.Filled.{Columns, blend, targets_to, Filled}
use Rattle.elimination.specs.Row.{Summable, Became}
use Rattle.elimination.specs.First.{Packable, PackedFrom, Unfinished}
use Rattle.elimination.proofs.Places.{place_most}
use Rattle.elimination.proofs.Fill.{weighed, count_ones, count_place, bit_some}
use Rattle.elimination.proofs.Along.{blend_none}
use Rattle.elimination.proofs.Unpacked.{unpacked_length, unpacked_weight, by_column, goal_stands, trap_stands, unknown_stands, reward_stands}
use Rattle.elimination.proofs.Merging.{whole_weight, whole_front, whole_packed}
use Rattle.elimination.proofs.Laws.{packed_held, unpacked_none, packed_none}
use Rattle.elimination.proofs.Rows.{no_row_fit, tested_fit}

-- l is as long as p, and zero but for what is gathered in p of Goal, Trap and Unknown, and what is earned.
pub record Fronted (earns : ℕ) (p l : List ℕ) : Type 0 where
  pub len : length l ≡ length p
  pub paid : get_or l reward_at 0 ≡ earns
  pub won : get_or l goal_at 0 ≡ cell p (goal_column (states_of p))
  pub lost : get_or l trap_at 0 ≡ cell p (trap_column (states_of p))
  pub unsure : get_or l unknown_at 0 ≡ cell p (unknown_column (states_of p))
  pub past : (q : ℕ) → weights_at ≤ q → get_or l q 0 ≡ 0

pub fronted : (earns : ℕ) (p : List ℕ) {z : List ℕ} → z ≡ replicate (length p) 0 → weights_at ≤ length p
    → (let n = states_of p in
    Fronted earns p
    (set (set (set (set z reward_at earns) goal_at (cell p (goal_column n))) trap_at (cell p (trap_column n))) unknown_at (cell p (unknown_column n))))
fronted earns p {z} cleared room =
    let m = length p in
    let n = states_of p in
    let goal = cell p (goal_column n) in
    let trap = cell p (trap_column n) in
    let unknown = cell p (unknown_column n) in
    let a = set z reward_at earns in
    let b = set a goal_at goal in
    let c = set b trap_at trap in
    let lz : length z ≡ m = ap length cleared ∙ length-replicate m 0 in
    let la : length a ≡ m = length-set z reward_at earns ∙ lz in
    let lb : length b ≡ m = length-set a goal_at goal ∙ la in
    let lc : length c ≡ m = length-set b trap_at trap ∙ lb in
    let last : (q : ℕ) → (q ≡ unknown_at → ⊥) → get_or (set c unknown_at unknown) q 0 ≡ get_or c q 0 = λ q d. get_or-set_other c unknown_at q unknown 0 d in
    let third : (q : ℕ) → (q ≡ trap_at → ⊥) → get_or c q 0 ≡ get_or b q 0 = λ q d. get_or-set_other b trap_at q trap 0 d in
    let second : (q : ℕ) → (q ≡ goal_at → ⊥) → get_or b q 0 ≡ get_or a q 0 = λ q d. get_or-set_other a goal_at q goal 0 d in
    record {
      len = length-set c unknown_at unknown ∙ lc;
      paid =
          last reward_at (λ e. omega arith)
          ∙ third reward_at (λ e. omega arith)
          ∙ second reward_at (λ e. omega arith)
          ∙ get_or-set_same z reward_at earns 0 (omega arith);
      won = last goal_at (λ e. omega arith) ∙ third goal_at (λ e. omega arith) ∙ get_or-set_same a goal_at goal 0 (omega arith);
      lost = last trap_at (λ e. omega arith) ∙ get_or-set_same b trap_at trap 0 (omega arith);
      unsure = get_or-set_same c unknown_at unknown 0 (omega arith);
      past = λ q h.
          last q (λ e. omega arith)
          ∙ third q (λ e. omega arith)
          ∙ second q (λ e. omega arith)
          ∙ get_or-set_other z reward_at q earns 0 (λ e. omega arith)
          ∙ ap (λ (l : List ℕ). get_or l q 0) cleared
          ∙ get_d_zeros m q;
    }

-- No weights.
pub none_columns : (all : ℕ) → Columns all (replicate (width most_states) 0)
none_columns all = record { fits = λ j. rw (get_d_zeros (width most_states) j) (omega arith); none = λ j _. get_d_zeros (width most_states) j }

-- The weights of a gathered row p to states, copied to x.
module _ {live : ℕ} {p : List ℕ} (h : Packable live p) (x : List ℕ) (copy : (j : ℕ) → get_or x j 0 ≡ get_or (take (states_of p) p) j 0) where
  abbrev n : ℕ
  n = states_of p

  copied_at : (j : ℕ) → j < n → get_or x j 0 ≡ cell p j
  copied_at j l = copy j ∙ get_or-take n p j 0 l

  copied_past : (j : ℕ) → n ≤ j → get_or x j 0 ≡ 0
  copied_past j l = copy j ∙ get_or-eq_default (take n p) 0 (omega (arith, length-take-le n p (omega arith)))

  copied_columns : Columns live x
  copied_columns =
      record {
        fits = λ j.
            ⊎_elim (λ (l : j < n). omega (arith, copied_at j l, h.fits j l)) (λ (l : n ≤ j). omega (arith, copied_past j l)) (below j n);
        none = λ j z. ⊎_elim (λ (l : j < n). copied_at j l ∙ h.outside j l z) (copied_past j) (below j n);
      }

  -- Only the columns that hold a weight are gone over: all.
  module _ {all : ℕ} (e : all ≡ targets_to (cell (take n p)) (length (take n p))) where
    long : length (take n p) ≡ n
    long = length-take-le n p (omega arith)

    pub occupied_columns : Columns all x
    occupied_columns =
        record {
          fits = copied_columns.fits;
          none = λ j z.
              ⊎_elim
              (λ (l : j < n).
              copy j
              ∙ weighed (cell (take n p) j) (λ b. b)
              (λ b. absurd (omega (arith, z, ap (λ s. bit s j) e, bit_some (cell (take n p)) (length (take n p)) j (omega (arith, long)) b))))
              (copied_past j)
              (below j n);
        }

    pub occupied_room : weights_at + ones all ≤ length p
    occupied_room =
        let m = length (take n p) in
        omega (
          arith,
          h.room,
          ap ones e,
          count_ones (cell (take n p)) m,
          count_place (cell (take n p)) live (λ i z. sym (copy i) ∙ copied_columns.none i z) m,
          place_most live m,
        )

  abbrev columns : ℕ → ℕ
  columns = blend (width most_states) 1 0 x (replicate (width most_states) 0)

  columns_at : (j : ℕ) → j < n → columns j ≡ cell p j
  columns_at j l = rw (ne_eqb j (width most_states) (λ e. omega (arith, h.few))) (omega (arith, copied_at j l))

  -- The packed part: v.
  module _ {earns : ℕ} {l : List ℕ} (a : Fronted earns p l) {t : ℕ} {u v : List ℕ}
      (f : (t ≡ targets_to columns most_states) × Filled columns l most_states u) (e : v ≡ set u 0 t) where
    wide : length p ≡ width n
    wide = omega (arith, h.room)

    some : 0 < length l
    some = omega (arith, wide, a.len)

    whole : v ≡ set u 0 (targets_to columns most_states)
    whole = e ∙ ap (set u 0) f.0

    front_at : (q : ℕ) → 0 < q → q < weights_at → get_or v q 0 ≡ get_or l q 0
    front_at = whole_front columns l u v f.1 some whole

    row_at : (j : ℕ) → j < width n → cell (unpacked n v) j ≡ cell (set p (reward_column n) earns) j
    row_at =
        let aside : (j : ℕ) → j < reward_column n → cell p j ≡ cell (set p (reward_column n) earns) j =
        λ j b. sym (get_or-set_other p (reward_column n) j earns 0 (λ q. omega arith)) in
        by_column n
        (λ j b.
        unpacked_weight n v j b
        ∙ whole_weight columns l u v f.1 some whole j (omega (arith, h.few))
        ∙ columns_at j b
        ∙ aside j (omega arith))
        ((goal_stands n).here v ∙ front_at goal_at (omega arith) (omega arith) ∙ a.won ∙ aside n (omega arith))
        ((trap_stands n).here v ∙ front_at trap_at (omega arith) (omega arith) ∙ a.lost ∙ aside (n + 1) (omega arith))
        ((unknown_stands n).here v ∙ front_at unknown_at (omega arith) (omega arith) ∙ a.unsure ∙ aside (n + 2) (omega arith))
        ((reward_stands n).here v
        ∙ front_at reward_at (omega arith) (omega arith)
        ∙ a.paid
        ∙ sym (get_or-set_same p (reward_column n) earns 0 (omega (arith, wide))))

    pub packed_from : PackedFrom earns p v
    packed_from =
        record {
          packed = λ m s.
              whole_packed columns l u v f.1 some whole m (a.len ∙ s)
              (λ j pos.
              let b : bit live j ≡ 0 → ⊥ = λ z. omega (arith, blend_none (width most_states) 1 0 copied_columns (none_columns live) j z) in
              omega (arith, h.inside j (omega arith)));
          row = λ m s.
              let q : m ≡ n = omega arith in
              rw q
              (ext_get_or 0 (unpacked n v) (set p (reward_column n) earns)
              (unpacked_length n v ∙ sym (length-set p (reward_column n) earns ∙ wide))
              (λ j b. row_at j (omega (arith, unpacked_length n v))));
        }

-- A live row that was packed can be settled.
module _ {b : Bool} {n : ℕ} {alive : Bool} {live earns : ℕ} {p : List ℕ} (g : Unfinished b n alive live earns p) where
  pub finish_settles : alive ≡ true → {v : List ℕ} → PackedFrom earns p v → (n ≤ most_states) × Packed n v × Summable n v × (b ≡ rounding → reward n (unpacked n v) ≡ 0)
  finish_settles e {v} f =
      let k = f.packed n g.size in
      let r = f.row n g.size in (
        omega (arith, g.size, (g.ready e).few),
        k,
        record {
          size = k.size;
          inside = k.inside;
          held = packed_held (omega (arith, g.size, (g.ready e).room)) k;
          bound =
              rw (r, sum_ext (cell (set p (reward_column n) earns)) (cell p) (reward_column n) (λ j h. get_or-set_other p (reward_column n) j earns 0 (λ q. omega arith)))
              (g.bound e);
        },
        λ a. rw r (get_or-set_same p (reward_column n) earns 0 (omega (arith, g.size)) ∙ g.unpaid a),
      )

-- A part of zeros is packed, stands for itself, and is the row of a state that is not kept.
pub zero_row : (n : ℕ) {p : List ℕ} → length p ≡ width n → ((j : ℕ) → j < width n → cell p j ≡ 0) → p ≡ no_row n
unfolding no_row
zero_row n {p} l h = tab_of 0 (width n) (λ _. 0) p l h

pub zero_stays : {b : Bool} (n : ℕ) {p : List ℕ} → length p ≡ width n → ((j : ℕ) → cell p j ≡ 0) → Became b n p 1 p (Some 1)
unfolding no_row
zero_stays {b} n {p} l h =
    let e : p ≡ no_row n = zero_row n l (λ j _. h j) in
    let z : p ≡ replicate (width n) 0 = e ∙ tab_zeros 0 (width n) in
    record {
      same = ap (unpacked n) z ∙ unpacked_none n ∙ sym e;
      packed = rw z (packed_none n);
      tested = rw e (tested_fit (no_row_fit b n) refl);
    }
