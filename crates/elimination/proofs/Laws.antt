-- What a packed row is: where its weights are, the room that it takes, and that there is one for each row.
use Prim.Native.Nat.{ℕ, suc, ◌+◌, ◌-◌, ◌/◌, ◌^◌, ◌≤◌, ◌<◌}
use mathlib.Core.Path.{◌≡◌, refl, sym, ap, ◌∙◌}
use mathlib.Core.Logic.{⊎_elim, ◌↔◌}
use mathlib.Core.Bool.{Bool}
use mathlib.Core.List.{List}
use native.Mathlib.Omega.{arith}
use native.Mathlib.Nat.{zero-div}
use lib.Bits.{bit_or}
use lib.Pow.{pow_mono}
use lib.Count.{ones}
use lib.ListN.{length, get_or, set, replicate, length-set, length-replicate, get_or-eq_default}
use lib.Seq.{ext_get_or, get_or-set_same, get_or-set_other}
use Rattle.meaning.specs.Chain.{most_states, M}
use Rattle.meaning.specs.Number.{bit, tab_from}
use Rattle.meaning.specs.Row.{Row, cell, width, over, unknown_column, reward_column}
use Rattle.meaning.specs.Step.{no_row}
use Rattle.theory.specs.Numbers.Tab.{get_d_zeros}
use Rattle.theory.specs.Numbers.Sum.{same, below, sum_term}
use Rattle.theory.specs.Numbers.Bits.{bits_same, in_either, set_below}
use Rattle.chain.specs.Rising.{place_of}
use Rattle.elimination.specs.Packed.{targets_of, unknown_at, weights_at, end_of_part, weight_of, unpacked, Below, Packed, Modest, Room}
use Rattle.elimination.specs.Row.{Small, Fit}
use Rattle.elimination.proofs.Places.{place_find, place_all, place_room}
use Rattle.elimination.proofs.Along.{weight_some, weight_none}
use Rattle.elimination.proofs.Unpacked.{
  unpacked_length,
  unpacked_weight,
  unpacked_is,
  unpacked_same,
  by_column,
  each_front,
  goal_stands,
  trap_stands,
  unknown_stands,
  reward_stands,
  Stands,
}

-- Each weight is changed by φ, which keeps 0.
map_weight : (φ : ℕ → ℕ) → φ 0 ≡ 0 → (p v : List ℕ) → targets_of v ≡ targets_of p → ((q : ℕ) → weights_at ≤ q → get_or v q 0 ≡ φ (get_or p q 0)) → (j : ℕ)
    → weight_of v j ≡ φ (weight_of p j)
map_weight φ z p v t e j =
    ⊎_elim
    (λ (b : bit (targets_of p) j ≡ 1).
    weight_some v j (ap (λ s. bit s j) t ∙ b)
    ∙ e _ (omega arith)
    ∙ ap (λ s. φ (get_or p (weights_at + place_of s j) 0)) t
    ∙ ap φ (sym (weight_some p j b)))
    (λ (d : bit (targets_of p) j ≡ 1 → ⊥).
    weight_none v j (λ b. d (sym (ap (λ s. bit s j) t) ∙ b))
    ∙ sym z
    ∙ ap φ (sym (weight_none p j d)))
    (same (bit (targets_of p) j) 1)

-- A row is divided by dividing what is stored; a shift by k is a division by 2 ^ k.
pub unpacked_over : (d : ℕ) (p v : List ℕ) → targets_of v ≡ targets_of p → ((q : ℕ) → 0 < q → get_or v q 0 ≡ get_or p q 0 / d) → (n : ℕ)
    → unpacked n v ≡ over d (unpacked n p)
unfolding over
unpacked_over d p v t e n =
    unpacked_is n v (λ j. cell (unpacked n p) j / d)
    (λ j h.
    map_weight (λ x. x / d) (zero-div d) p v t (λ q b. e q (omega arith)) j
    ∙ ap (λ x. x / d) (sym (unpacked_weight n p j h)))
    (λ j q s. e q s.some ∙ ap (λ x. x / d) (sym (s.here p)))
    ∙ ap (λ m. tab_from 0 m (λ j. cell (unpacked n p) j / d)) (sym (unpacked_length n p))

-- What a row is made of, and no more.
pub unpacked_ext : (n : ℕ) (p v : List ℕ) → ((q : ℕ) → get_or p q 0 ≡ get_or v q 0) → unpacked n p ≡ unpacked n v
unpacked_ext n p v e = unpacked_same n v p (λ j _. map_weight (λ x. x) refl v p (e 0) (λ q _. e q) j) (λ q _ _. e q)

-- The number of Unknown is written.
module _ (n : ℕ) (p : List ℕ) (x : ℕ) (h : unknown_at < length p) where
  abbrev z : List ℕ
  z = set p unknown_at x

  abbrev r : Row
  r = set (unpacked n p) (unknown_column n) x

  other : (q : ℕ) → (q ≡ unknown_at → ⊥) → get_or z q 0 ≡ get_or p q 0
  other q d = get_or-set_other p unknown_at q x 0 d

  aside : (j : ℕ) → (j ≡ unknown_column n → ⊥) → cell (unpacked n p) j ≡ cell r j
  aside j d = sym (get_or-set_other (unpacked n p) (unknown_column n) j x 0 d)

  stays : {j q : ℕ} → Stands n j q → (q ≡ unknown_at → ⊥) → (j ≡ unknown_column n → ⊥) → cell (unpacked n z) j ≡ cell r j
  stays {j} {q} s c d = s.here z ∙ other q c ∙ sym (s.here p) ∙ aside j d

  pub unpacked_set : unpacked n z ≡ r
  unpacked_set =
      ext_get_or 0 (unpacked n z) r (unpacked_length n z ∙ sym (length-set (unpacked n p) (unknown_column n) x ∙ unpacked_length n p))
      (λ j l.
      by_column n {P = λ j. cell (unpacked n z) j ≡ cell r j}
      (λ j b.
      unpacked_weight n z j b
      ∙ map_weight (λ y. y) refl p z (other 0 (λ e. omega arith)) (λ q a. other q (λ e. omega arith)) j
      ∙ sym (unpacked_weight n p j b)
      ∙ aside j (λ e. omega arith))
      (stays (goal_stands n) (λ e. omega arith) (λ e. omega arith))
      (stays (trap_stands n) (λ e. omega arith) (λ e. omega arith))
      ((unknown_stands n).here z
      ∙ get_or-set_same p unknown_at x 0 h
      ∙ sym (get_or-set_same (unpacked n p) (unknown_column n) x 0 (omega (arith, unpacked_length n p))))
      (stays (reward_stands n) (λ e. omega arith) (λ e. omega arith))
      j
      (omega (arith, unpacked_length n z)))

-- The number at place q is the weight to a state.
pub record Weighs (n : ℕ) (p : List ℕ) (q : ℕ) : Type 0 where
  pub state : ℕ
  pub inside : state < n
  pub target : bit (targets_of p) state ≡ 1
  pub place : weights_at + place_of (targets_of p) state ≡ q
  pub here : cell (unpacked n p) state ≡ get_or p q 0

-- Each number from the first weight to the last is one.
pub each_weight : (n : ℕ) (p : List ℕ) → Below n p → (q : ℕ) → weights_at ≤ q → q < end_of_part p → Weighs n p q
each_weight n p i q a b =
    let r = place_find (targets_of p) (q - weights_at) n (omega (arith, place_all (targets_of p) n (set_below n (targets_of p) i))) in
    let e : weights_at + place_of (targets_of p) r.0 ≡ q = omega (arith, r.3) in
    record {
      state = r.0;
      inside = r.1;
      target = r.2;
      place = e;
      here = unpacked_weight n p r.0 r.1 ∙ weight_some p r.0 r.2 ∙ ap (λ k. get_or p k 0) e;
    }

-- A target is a state with a weight.
module _ {n : ℕ} {p : List ℕ} (h : Packed n p) where
  pub packed_few : targets_of p < 2 ^ n
  packed_few = set_below n (targets_of p) h.inside

  packed_weight : (j : ℕ) → bit (targets_of p) j ≡ 1 → 0 < weight_of p j
  packed_weight j b = rw (weight_some p j b) (h.some j b)

  pub packed_bit : (j : ℕ) → j < n → (bit (targets_of p) j ≡ 1) ↔ (0 < cell (unpacked n p) j)
  packed_bit j l = (
    λ b. rw (unpacked_weight n p j l) (packed_weight j b),
    λ w.
        ⊎_elim
        (λ (b : bit (targets_of p) j ≡ 1). b)
        (λ (d : bit (targets_of p) j ≡ 1 → ⊥). absurd (omega (arith, unpacked_weight n p j l, weight_none p j d)))
        (same (bit (targets_of p) j) 1),
  )

  -- The last weight is above 0, so it stands within the part.
  last_held : (k : ℕ) → ones (targets_of p) ≡ suc k → end_of_part p ≤ length p
  last_held k e =
      let t = each_weight n p h.inside (weights_at + k) (omega arith) (omega arith) in
      ⊎_elim
      (λ (l : weights_at + k < length p). omega arith)
      (λ (l : length p ≤ weights_at + k). absurd (omega (arith, (packed_bit t.state t.inside).0 t.target, t.here, get_or-eq_default p 0 l)))
      (below (weights_at + k) (length p))

pub packed_held : {n : ℕ} {p : List ℕ} → 0 < n → Packed n p → end_of_part p ≤ length p
packed_held {n} {p} s h =
    ⊎_elim
    (λ (e : ones (targets_of p) ≡ 0). omega (arith, h.size))
    (λ (d : ones (targets_of p) ≡ 0 → ⊥). last_held h (ones (targets_of p) - 1) (omega arith))
    (same (ones (targets_of p)) 0)

-- A state below n is in no set, as a goal is: then there is room for the targets' number, of one row and of two.
pub set_room : (n g : ℕ) → g < n → (s : ℕ) → ((j : ℕ) → bit s j ≡ 1 → j < n) → bit s g ≡ 0 → (s < 2 ^ n) × (weights_at + ones s ≤ width n)
set_room n g l s i z = let b = set_below n s i in (b, omega (arith, place_room s g n z l, place_all s n b))

pub packed_room : (n g : ℕ) → n ≤ most_states → g < n → {p x : List ℕ} → Below n p → Below n x → bit (targets_of p) g ≡ 0 → bit (targets_of x) g ≡ 0
    → Room (width n) p x
packed_room n g few l {p} {x} hp hx zp zx =
    let both = bit_or (targets_of p) (targets_of x) in
    let out : bit both g ≡ 1 → ⊥ = λ b. ⊎_elim (λ (e : bit (targets_of p) g ≡ 1). omega arith) (λ (e : bit (targets_of x) g ≡ 1). omega arith) ((in_either (targets_of p) (targets_of x) g).0 b) in
    let r = set_room n g l both (λ j b. ⊎_elim (hp j) (hx j) ((in_either (targets_of p) (targets_of x) j).0 b)) (omega arith) in
    let m : 2 ^ n ≤ 2 ^ most_states = pow_mono few in
    record { few = omega (arith, r.0); narrow = r.1 }

-- A row is packed in one way.
one_bit : {n : ℕ} {p v : List ℕ} → Packed n p → Packed n v → unpacked n p ≡ unpacked n v → (i : ℕ) → bit (targets_of p) i ≡ 1 → bit (targets_of v) i ≡ 1
one_bit hp hv e i b = let l = hp.inside i b in (packed_bit hv i l).1 (rw e at ((packed_bit hp i l).0 b))

pub packed_one : {n : ℕ} {p v : List ℕ} → Packed n p → Packed n v → unpacked n p ≡ unpacked n v → p ≡ v
packed_one {n} {p} {v} hp hv e =
    ext_get_or 0 p v (hp.size ∙ sym hv.size)
    (λ q l.
    ⊎_elim
    (λ (a : q < weights_at).
    ⊎_elim
    (λ (z : q ≡ 0). rw z t)
    (λ (z : q ≡ 0 → ⊥).
    each_front n {P = λ q. get_or p q 0 ≡ get_or v q 0} (λ j q s. sym (s.here p) ∙ ap (λ (r : Row). cell r j) e ∙ s.here v) q (omega arith) a)
    (same q 0))
    (λ (a : weights_at ≤ q).
    ⊎_elim
    (λ (b : q < end_of_part p).
    let w = each_weight n p hp.inside q a b in
    let j = w.state in
    let d : weights_at + place_of (targets_of v) j ≡ q = ap (λ s. weights_at + place_of s j) (sym t) ∙ w.place in
    sym w.here
    ∙ ap (λ (x : Row). cell x j) e
    ∙ unpacked_weight n v j w.inside
    ∙ weight_some v j (one_bit hp hv e j w.target)
    ∙ ap (λ k. get_or v k 0) d)
    (λ (b : end_of_part p ≤ q). hp.rest q b ∙ sym (hv.rest q (omega (arith, ap ones t))))
    (below q (end_of_part p)))
    (below q weights_at))
  where
    t : targets_of p ≡ targets_of v
    t =
        bits_same
        (λ i.
        ⊎_elim
        (λ (b : bit (targets_of p) i ≡ 1). b ∙ sym (one_bit hp hv e i b))
        (λ (d : bit (targets_of p) i ≡ 1 → ⊥).
        let d' : bit (targets_of v) i ≡ 1 → ⊥ = λ b. d (one_bit hv hp (sym e) i b) in omega arith)
        (same (bit (targets_of p) i) 1))

-- A cleared part stands for no row, and is packed.
module _ (n : ℕ) where
  no_target : (j : ℕ) → bit (targets_of (replicate (width n) 0)) j ≡ 1 → ⊥
  no_target j b = omega (arith, rw (get_d_zeros (width n) 0, zero-div (2 ^ j)) at b)

  pub unpacked_none : unpacked n (replicate (width n) 0) ≡ no_row n
  unfolding no_row
  unpacked_none =
      unpacked_is n (replicate (width n) 0) (λ _. 0) (λ j _. weight_none (replicate (width n) 0) j (no_target j)) (λ j q _. get_d_zeros (width n) q)

  pub packed_none : Packed n (replicate (width n) 0)
  packed_none =
      record {
        size = length-replicate (width n) 0;
        inside = λ j b. absurd (no_target j b);
        some = λ j b. absurd (no_target j b);
        rest = λ q _. get_d_zeros (width n) q;
      }

-- What is stored of a row that is small is small.
pub fit_small : {b : Bool} (n : ℕ) (r : Row) → Fit b n r → Small (width n) r
fit_small n r h j b =
    ⊎_elim
    (λ (l : j < reward_column n). omega (arith, h.weights, sum_term (cell r) (reward_column n) j l))
    (λ (l : reward_column n ≤ j). let e : j ≡ reward_column n = omega arith in rw e h.earned)
    (below j (reward_column n))

pub small_modest : (n : ℕ) (p : List ℕ) → Below n p → ((q : ℕ) → end_of_part p ≤ q → get_or p q 0 ≡ 0) → Small (width n) (unpacked n p) → Modest p
small_modest n p i rest h q a =
    ⊎_elim
    (λ (l : q < weights_at). each_front n {P = λ q. get_or p q 0 ≤ M} (λ j q s. rw (sym (s.here p)) (h j s.inside)) q a l)
    (λ (l : weights_at ≤ q).
    ⊎_elim
    (λ (b : q < end_of_part p).
    let w = each_weight n p i q l b in
    omega (arith, h w.state (omega (arith, w.inside)), w.here))
    (λ (b : end_of_part p ≤ q). omega (arith, rest q b))
    (below q (end_of_part p)))
    (below q weights_at)

pub fit_modest : {b : Bool} {n : ℕ} {p : List ℕ} → Packed n p → Fit b n (unpacked n p) → Modest p
fit_modest {n = n} {p = p} h f = small_modest n p h.inside h.rest (fit_small n (unpacked n p) f)
