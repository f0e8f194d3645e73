-- Two packed rows that are gone through together, target by target.
use Prim.Native.Nat.{ℕ, suc, ◌+◌, ◌-◌, ◌*◌, ◌^◌, ◌≤◌, ◌<◌}
use mathlib.Core.Path.{◌≡◌, refl, sym, ap, ◌∙◌}
use mathlib.Core.Logic.{⊎_elim, inl, inr}
use mathlib.Core.Bool.{Bool, true, false}
use mathlib.Core.List.{List}
use native.Mathlib.Omega.{arith}
use native.Mathlib.Nat.{zero-div, pow-succ'}
use lib.Pow.{pow_mono}
use lib.Bits.{bit_or}
use lib.Count.{ones}
use lib.Dec.{eqb, ltb}
use lib.ListN.{length, get_or, set, replicate, length-set, length-replicate}
use lib.Seq.{get_or-set_same, get_or-set_other}
use borrow.Author.Tests.{eq-eqb, ne_eqb}
use Rattle.meaning.specs.Chain.{most_states, M}
use Rattle.meaning.specs.Number.{sum_to, only, choose, bit}
use Rattle.meaning.specs.Row.{width}
use Rattle.theory.specs.Numbers.Bits.{in_either}
use Rattle.theory.specs.Numbers.Sum.{same, below, last_or_below}
use Rattle.theory.specs.Numbers.Tab.{get_d_zeros}
use Rattle.chain.specs.Rising.{place_of, Lowest, Others}
use Rattle.elimination.specs.Packed.{targets_of, weights_at, weight_of, Modest, Spread}
use Rattle.elimination.specs.Filled.{count_to, targets_to, mixed, blend, Columns, Filled}
use Rattle.elimination.proofs.Places.{place_none, place_suc, place_stays, place_rises, place_most}
use Rattle.elimination.proofs.Fill.{
  count_place,
  count_suc,
  count_stays,
  targets_lt,
  targets_suc,
  targets_stay,
  only_le,
  filled_none,
  filled_stays,
  filled_more,
}

-- A weight that is read.
module _ (p : List ℕ) (j : ℕ) where
  pub weight_some : bit (targets_of p) j ≡ 1 → weight_of p j ≡ get_or p (weights_at + place_of (targets_of p) j) 0
  unfolding weight_of
  weight_some e = rw (eq-eqb (bit (targets_of p) j) 1 e)

  pub weight_none : (bit (targets_of p) j ≡ 1 → ⊥) → weight_of p j ≡ 0
  unfolding weight_of
  weight_none d = rw (ne_eqb (bit (targets_of p) j) 1 d)

  pub weight_small : Modest p → weight_of p j ≤ M
  weight_small h =
      ⊎_elim
      (λ (e : bit (targets_of p) j ≡ 1). rw (weight_some e) (h _ (omega arith)))
      (λ (d : bit (targets_of p) j ≡ 1 → ⊥). rw (weight_none d) (omega arith))
      (same (bit (targets_of p) j) 1)

-- What is left of a set once its states below j are done.
pub record Along (u rest j : ℕ) : Type 0 where
  pub wide : u < 2 ^ most_states
  pub so_far : j ≤ most_states
  pub done : (i : ℕ) → i < j → bit rest i ≡ 0
  pub left : (i : ℕ) → j ≤ i → bit rest i ≡ bit u i

pub along_none : (u : ℕ) → u < 2 ^ most_states → Along u u 0
along_none u h = record { wide = h; so_far = omega arith; done = λ i l. absurd (omega arith); left = λ i l. refl }

module _ {u rest j : ℕ} (l : Along u rest j) where
  -- Nothing is left.
  pub along_past : rest ≡ 0 → (i : ℕ) → bit u (j + i) ≡ 0
  along_past z i = sym (l.left (j + i) (omega arith)) ∙ rw (z, zero-div (2 ^ (j + i)))

  module _ {t : ℕ} (h : Lowest rest t) where
    pub along_from : j ≤ t
    along_from = ⊎_elim (λ (b : t < j). absurd (omega (arith, l.done t b, h.inside))) (λ (b : j ≤ t). b) (below t j)

    pub along_gap : (i : ℕ) → i < t - j → bit u (j + i) ≡ 0
    along_gap i b = sym (l.left (j + i) (omega arith)) ∙ h.least (j + i) (omega arith)

    pub along_here : bit u t ≡ 1
    along_here = sym (l.left t along_from) ∙ h.inside

    pub along_place : place_of u t ≡ place_of u j
    along_place = let e : j + (t - j) ≡ t = omega (arith, along_from) in ap (place_of u) (sym e) ∙ place_stays u j (t - j) along_gap

    pub along_more : {rest' : ℕ} → Others rest rest' → Along u rest' (suc t)
    along_more o =
        record {
          wide = l.wide;
          so_far = h.small;
          done = λ i b.
              last_or_below b
              (λ (e : i ≡ t). rw e (o.gone t h))
              (λ (b : i < t). o.kept t h i (λ e. omega arith) ∙ h.least i b);
          left = λ i b. o.kept t h i (λ e. omega arith) ∙ l.left i (omega (arith, along_from));
        }

-- What is in neither set.
pub out_first : (x y i : ℕ) → bit (bit_or x y) i ≡ 0 → bit x i ≡ 0
out_first x y i z = let h : bit x i ≡ 1 → ⊥ = λ e. (let q = (in_either x y i).1 (inl e) in omega arith) in omega arith

pub out_second : (x y i : ℕ) → bit (bit_or x y) i ≡ 0 → bit y i ≡ 0
out_second x y i z = let h : bit y i ≡ 1 → ⊥ = λ e. (let q = (in_either x y i).1 (inr e) in omega arith) in omega arith

-- A column that neither row has a weight in has none in the new row.
pub blank : (g : Bool) (d w a b : ℕ) → a ≡ 0 → b ≡ 0 → choose g 0 (a * d + w * b) ≡ 0
blank true d w a b x y = refl
blank false d w a b x y = rw (x, y) (omega arith)

pub mixed_none : (s d w : ℕ) (old pivot : List ℕ) (i : ℕ) → bit (bit_or (targets_of old) (targets_of pivot)) i ≡ 0 → mixed s d w old pivot i ≡ 0
mixed_none s d w old pivot i z =
    blank (eqb i s) d w _ _ (weight_none old i (λ e. omega (arith, out_first (targets_of old) (targets_of pivot) i z)))
    (weight_none pivot i (λ e. omega (arith, out_second (targets_of old) (targets_of pivot) i z)))

pub blend_none : (s d w : ℕ) {all : ℕ} {x y : List ℕ} → Columns all x → Columns all y → (i : ℕ) → bit all i ≡ 0 → blend s d w x y i ≡ 0
blend_none s d w hx hy i z = blank (eqb i s) d w _ _ (hx.none i z) (hy.none i z)

-- The columns below `at` are done, and their weights stand side by side in p.
pub record Written (c : ℕ → ℕ) (u : ℕ) (l p : List ℕ) (rest targets k : ℕ) : Type 0 where
  pub at : ℕ
  pub none : (i : ℕ) → bit u i ≡ 0 → c i ≡ 0
  pub along : Along u rest at
  pub marks : targets ≡ targets_to c at
  pub place : k ≡ weights_at + count_to c at
  pub filled : Filled c l at p

module _ {c : ℕ → ℕ} {u : ℕ} {l : List ℕ} where
  pub written_none : ((i : ℕ) → bit u i ≡ 0 → c i ≡ 0) → u < 2 ^ most_states → ((q : ℕ) → weights_at ≤ q → get_or l q 0 ≡ 0) → Written c u l l u 0 weights_at
  unfolding sum_to
  written_none n h z = record { at = 0; none = n; along = along_none u h; marks = refl; place = refl; filled = filled_none z }

  module _ {p : List ℕ} {rest targets k : ℕ} (r : Written c u l p rest targets k) where
    -- Nothing is left.
    pub written_all : rest ≡ 0 → (targets ≡ targets_to c most_states) × Filled c l most_states p
    written_all z =
        let j = r.at in
        let t = most_states - j in
        let e : j + t ≡ most_states = omega (arith, r.along.so_far) in
        let none : (i : ℕ) → i < t → c (j + i) ≡ 0 = λ i _. r.none (j + i) (along_past r.along z i) in (
          r.marks ∙ sym (targets_stay c j t none) ∙ ap (targets_to c) e,
          rw e at (filled_stays t none r.filled),
        )

    module _ {t : ℕ} (h : Lowest rest t) where
      gap : (i : ℕ) → i < t - r.at → c (r.at + i) ≡ 0
      gap i b = r.none (r.at + i) (along_gap r.along h i b)

      to : r.at + (t - r.at) ≡ t
      to = omega (arith, along_from r.along h)

      place_here : k ≡ weights_at + count_to c t
      place_here = r.place ∙ ap (λ z. weights_at + z) (sym (count_stays c r.at (t - r.at) gap) ∙ ap (count_to c) to)

      marks_here : targets ≡ targets_to c t
      marks_here = r.marks ∙ sym (targets_stay c r.at (t - r.at) gap) ∙ ap (targets_to c) to

      filled_here : Filled c l t p
      filled_here = rw to at (filled_stays (t - r.at) gap r.filled)

      -- There is room for the next weight.
      pub written_room : (m : ℕ) → weights_at + ones u ≤ m → k < m
      written_room m o =
          omega (
            arith,
            place_here,
            count_place c u r.none t,
            place_rises u t (suc t) (omega arith) (along_here r.along h),
            place_most u (suc t),
          )

      -- The new target is above all others.
      pub written_fits : (v : ℕ) → targets + only (ltb 0 v) (2 ^ t) < 2 ^ most_states
      written_fits v =
          let m : 2 ^ suc t ≤ 2 ^ most_states = pow_mono h.small in
          omega (arith, marks_here, targets_lt c t, only_le v (2 ^ t), pow-succ' 2 t)

      pub written_more : {rest' v k' targets' : ℕ} → Others rest rest' → v ≡ c t → k' ≡ k + only (ltb 0 v) 1
          → targets' ≡ targets + only (ltb 0 v) (2 ^ t) → k < length l → Written c u l (set p k v) rest' targets' k'
      written_more {v = v} {k' = k'} {targets' = targets'} o ev ek et room =
          record {
            at = suc t;
            none = r.none;
            along = along_more r.along h o;
            marks = rw (targets_suc c t) (rw ev at et ∙ omega (arith, marks_here));
            place = rw (count_suc c t) (rw ev at ek ∙ omega (arith, place_here));
            filled = rw (ev, place_here) (filled_more filled_here (omega (arith, place_here)));
          }

-- The weights of the targets below `at` stand at their states.
pub record Spreading (p : List ℕ) (rest k : ℕ) (wide : List ℕ) : Type 0 where
  pub at : ℕ
  pub along : Along (targets_of p) rest at
  pub place : k ≡ weights_at + place_of (targets_of p) at
  pub len : length wide ≡ width most_states
  pub new : (i : ℕ) → i < at → get_or wide i 0 ≡ weight_of p i
  pub old : (i : ℕ) → at ≤ i → get_or wide i 0 ≡ 0

pub spread_none : (p : List ℕ) → targets_of p < 2 ^ most_states → Spreading p (targets_of p) weights_at (replicate (width most_states) 0)
spread_none p h =
    record {
      at = 0;
      along = along_none (targets_of p) h;
      place = omega (arith, place_none (targets_of p));
      len = length-replicate {A = ℕ} (width most_states) 0;
      new = λ i l. absurd (omega arith);
      old = λ i l. get_d_zeros (width most_states) i;
    }

module _ {p : List ℕ} {rest k : ℕ} {wide : List ℕ} (r : Spreading p rest k wide) where
  pub spread_all : rest ≡ 0 → Spread p wide
  spread_all z j =
      ⊎_elim
      (λ (b : j < r.at). r.new j b)
      (λ (b : r.at ≤ j).
      let e : r.at + (j - r.at) ≡ j = omega arith in
      r.old j b ∙ sym (weight_none p j (λ q. omega (arith, rw e at (along_past r.along z (j - r.at))))))
      (below j r.at)

  module _ {t : ℕ} (h : Lowest rest t) where
    spread_place : k ≡ weights_at + place_of (targets_of p) t
    spread_place = omega (arith, r.place, along_place r.along h)

    pub spread_room : weights_at + ones (targets_of p) ≤ length p → k < length p
    spread_room o =
        let u = targets_of p in
        omega (arith, spread_place, place_rises u t (suc t) (omega arith) (along_here r.along h), place_most u (suc t))

    pub spread_more : {rest' : ℕ} → Others rest rest' → Spreading p rest' (k + 1) (set wide t (get_or p k 0))
    spread_more o =
        let v = get_or p k 0 in
        let b1 = along_here r.along h in
        record {
          at = suc t;
          along = along_more r.along h o;
          place = omega (arith, spread_place, place_suc (targets_of p) t);
          len = length-set wide t v ∙ r.len;
          new = λ i b.
              last_or_below b
              (λ (e : i ≡ t).
              rw e
              (get_or-set_same wide t v 0 (omega (arith, r.len, h.small)) ∙ ap (λ q. get_or p q 0) spread_place ∙ sym (weight_some p t b1)))
              (λ (b : i < t).
              get_or-set_other wide t i v 0 (λ e. omega arith)
              ∙ ⊎_elim
              (λ (a : i < r.at). r.new i a)
              (λ (a : r.at ≤ i).
              let e : r.at + (i - r.at) ≡ i = omega arith in
              r.old i a ∙ sym (weight_none p i (λ q. omega (arith, rw e at (along_gap r.along h (i - r.at) (omega arith))))))
              (below i r.at));
          old = λ i b. get_or-set_other wide t i v 0 (λ e. omega arith) ∙ r.old i (omega (arith, along_from r.along h));
        }
