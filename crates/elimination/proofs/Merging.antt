-- The packed row that is written is the new row.
use Prim.Native.Nat.{ℕ, ◌+◌, ◌-◌, ◌*◌, ◌≤◌, ◌<◌}
use native.Mathlib.Nat.{le_refl}
use mathlib.Core.Path.{◌≡◌, sym, ap, subst, fun_ext, ◌∙◌}
use mathlib.Core.Logic.{⊎_elim}
use mathlib.Core.List.{List}
use native.Mathlib.Omega.{arith}
use lib.Bits.{bit_or}
use lib.Count.{ones}
use lib.Dec.{eqb}
use lib.ListN.{length, get_or, set, replicate, length-set, length-replicate, get_or-eq_default}
use lib.Seq.{get_or-set_same, get_or-set_other}
use borrow.Author.Tests.{ne_eqb}
use borrow.Rule.Slice.PartMut.{mid_of, put_mid, mid_len}
use Rattle.meaning.specs.Chain.{most_states}
use Rattle.meaning.specs.Number.{choose, bit, tab_from}
use Rattle.meaning.specs.Row.{cell, width}
use Rattle.meaning.specs.Step.{combined}
use Rattle.theory.specs.Numbers.Bits.{bit_below, in_either}
use Rattle.theory.specs.Numbers.Sum.{below}
use Rattle.theory.specs.Numbers.Tab.{get_d_zeros}
use Rattle.chain.specs.Rising.{place_of}
use Rattle.elimination.specs.Packed.{targets_of, weights_at, weight_of, unpacked, Packed, Spread}
use Rattle.elimination.specs.Filled.{targets_to, mixed, blend, Filled, Beside, Emptied, Merged}
use Rattle.elimination.proofs.Middle.{put_length, put_before, put_within, put_past}
use Rattle.elimination.proofs.Fill.{weighed, count_ones, place_count, bit_none, bit_some, targets_lt}
use Rattle.elimination.proofs.Along.{weight_some, weight_none, mixed_none}
use Rattle.elimination.proofs.Unpacked.{unpacked_length, unpacked_weight, unpacked_is}

-- The weights of a row once the set of its targets is written too: v.
module _ (c : ℕ → ℕ) (l p v : List ℕ) (f : Filled c l most_states p) (room : 0 < length l) (e : v ≡ set p 0 (targets_to c most_states)) where
  targets_is : targets_of v ≡ targets_to c most_states
  targets_is = ap (λ z. get_or z 0 0) e ∙ get_or-set_same p 0 (targets_to c most_states) 0 (omega (arith, f.len))

  past_is : (q : ℕ) → 0 < q → get_or v q 0 ≡ get_or p q 0
  past_is q h = ap (λ z. get_or z q 0) e ∙ get_or-set_other p 0 q (targets_to c most_states) 0 (λ z. omega arith)

  weight_there : (j : ℕ) → j < most_states → 0 < c j → get_or v (weights_at + place_of (targets_of v) j) 0 ≡ c j
  weight_there j h w =
      past_is _ (omega arith)
      ∙ ap (λ t. get_or p (weights_at + place_of t j) 0) targets_is
      ∙ ap (λ k. get_or p (weights_at + k) 0) (place_count c most_states j (omega arith))
      ∙ f.new j h w

  pub whole_weight : (j : ℕ) → j < most_states → weight_of v j ≡ c j
  whole_weight j h =
      weighed (c j)
      (λ z. weight_none v j (λ b. omega (arith, ap (λ t. bit t j) targets_is, bit_none c most_states j h z)) ∙ sym z)
      (λ w. weight_some v j (ap (λ t. bit t j) targets_is ∙ bit_some c most_states j h w) ∙ weight_there j h w)

  pub whole_front : (q : ℕ) → 0 < q → q < weights_at → get_or v q 0 ≡ get_or l q 0
  whole_front q a b = past_is q a ∙ f.front q b

  -- A target has a weight.
  target_some : (j : ℕ) → bit (targets_of v) j ≡ 1 → (j < most_states) × (0 < c j)
  target_some j b =
      let b' : bit (targets_to c most_states) j ≡ 1 = sym (ap (λ t. bit t j) targets_is) ∙ b in
      let k = bit_below (targets_to c most_states) most_states j (targets_lt c most_states) b' in
      (k, weighed (c j) (λ z. absurd (omega (arith, bit_none c most_states j k z))) (λ w. w))

  pub whole_packed : (n : ℕ) → length l ≡ width n → ((j : ℕ) → 0 < c j → j < n) → Packed n v
  whole_packed n h into =
      record {
        size = ap length e ∙ length-set p 0 (targets_to c most_states) ∙ f.len ∙ h;
        inside = λ j b. into j (target_some j b).1;
        some = λ j b. let t = target_some j b in omega (arith, t.1, weight_there j t.0 t.1);
        rest = λ q b. past_is q (omega arith) ∙ f.rest q (omega (arith, ap ones targets_is, count_ones c most_states));
      }

pub blend_mixed : (s d w : ℕ) (p pivot x y : List ℕ) → Spread p x → Spread pivot y → blend s d w x y ≡ mixed s d w p pivot
blend_mixed s d w p pivot x y ex ey = fun_ext (λ j. rw (ex j, ey j))

-- A part whose weights were lent to be cleared.
pub emptied : (l : List ℕ) → weights_at ≤ length l
    → Emptied l (put_mid weights_at (length l - weights_at) l (replicate (length (mid_of weights_at (length l - weights_at) l)) 0))
emptied l h =
    let m = length (mid_of weights_at (length l - weights_at) l) in
    let ys : List ℕ = replicate m 0 in
    let e : length ys ≡ length l - weights_at = length-replicate m 0 ∙ mid_len weights_at (length l) l (le_refl (length l)) in
    record {
      len = put_length weights_at (length l) l ys h (le_refl (length l)) e;
      front = put_before weights_at (length l) l ys h (le_refl (length l)) e;
      past = λ q b.
          ⊎_elim
          (λ (c : q < length l).
          let k : weights_at + (q - weights_at) ≡ q = omega arith in
          sym (ap (λ z. get_or (put_mid weights_at (length l - weights_at) l ys) z 0) k)
          ∙ put_within weights_at (length l) l ys h (le_refl (length l)) e (q - weights_at) (omega arith)
          ∙ get_d_zeros m (q - weights_at))
          (λ (c : length l ≤ q). put_past weights_at (length l) l ys h (le_refl (length l)) e q c ∙ get_or-eq_default l 0 c)
          (below q (length l));
    }

-- A part with the new numbers before the weights, the weights cleared, and then the new ones written.
module _ {d w e : ℕ} {pivot p l z : List ℕ} (all : weights_at ≤ e) (b : Beside d w e pivot p l) (k : Emptied l z) where
  pub emptied_length : length z ≡ length p
  emptied_length = k.len ∙ b.len

  pub merged : (s : ℕ) {u v : List ℕ} {t : ℕ} → weights_at ≤ length p → (t ≡ targets_to (mixed s d w p pivot) most_states) × Filled (mixed s d w p pivot) z most_states u
      → v ≡ set u 0 t → Merged s d w pivot p v
  unfolding combined
  merged s {u = u} {v = v} room (et, f) ev =
      let c = mixed s d w p pivot in
      let ev' : v ≡ set u 0 (targets_to c most_states) = ev ∙ ap (set u 0) et in
      let some : 0 < length z = omega (arith, emptied_length) in
      record {
        packed = λ n h a y.
            whole_packed c z u v f some ev' n (emptied_length ∙ h)
            (λ j pos.
            let o : bit (bit_or (targets_of p) (targets_of pivot)) j ≡ 0 → ⊥ = λ q. omega (arith, mixed_none s d w p pivot j q) in
            ⊎_elim (a j) (y j) ((in_either (targets_of p) (targets_of pivot) j).0 (omega arith)));
        row = λ n few ew aside.
            let r = unpacked n p in
            unpacked_is n v (λ j. choose (eqb j s) 0 (cell r j * d + cell r s * cell (unpacked n pivot) j))
            (λ j h.
            whole_weight c z u v f some ev' j (omega arith)
            ∙ rw (unpacked_weight n p j h, unpacked_weight n pivot j h, ew))
            (λ j q h.
            whole_front c z u v f some ev' q h.some h.front
            ∙ k.front q h.front
            ∙ b.new q h.some (omega (arith, h.front))
            ∙ rw (ne_eqb j s (aside j h.past h.inside), h.here p, h.here pivot, ew))
            ∙ ap (λ m. tab_from 0 m (λ j. choose (eqb j s) 0 (cell r j * d + cell r s * cell (unpacked n pivot) j))) (sym (unpacked_length n p));
      }

  pub merged_by : (s : ℕ) (x y : List ℕ) {u v : List ℕ} {t : ℕ} → Spread p x → Spread pivot y → weights_at ≤ length p
      → (t ≡ targets_to (blend s d w x y) most_states) × Filled (blend s d w x y) z most_states u → v ≡ set u 0 t → Merged s d w pivot p v
  merged_by s x y {u} {v} {t} ex ey room h ev =
      merged s room (subst (λ c. (t ≡ targets_to c most_states) × Filled c z most_states u) (blend_mixed s d w p pivot x y ex ey) h) ev
