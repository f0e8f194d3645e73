-- Two packed rows with the same targets: their weights stand side by side, and the new row is made by moving up those behind s.
use Prim.Native.Nat.{ℕ, zero, suc, ◌+◌, ◌-◌, ◌*◌, ◌%◌, ◌^◌, ◌≤◌, ◌<◌}
use mathlib.Core.Path.{◌≡◌, refl, sym, ap, ◌∙◌}
use mathlib.Core.Logic.{⊎_elim}
use mathlib.Core.List.{List}
use native.Mathlib.Omega.{arith}
use native.Mathlib.Nat.{mod-eq_of_lt, mod-one, mul-le-mul}
use lib.Count.{ones}
use lib.ListN.{get_or, set}
use lib.Pow.{mod-pow-add}
use borrow.Author.Tests.{eq-eqb, ne_eqb}
use Rattle.meaning.specs.Chain.{most_states}
use Rattle.meaning.specs.Number.{sum_to, bit}
use Rattle.theory.specs.Numbers.Sum.{same, below, last_or_below}
use Rattle.chain.specs.Rising.{place_of}
use Rattle.elimination.specs.Packed.{targets_of, weights_at, end_of_part, weight_of}
use Rattle.elimination.specs.Filled.{count_to, targets_to, mixed, Filled, Beside, Closed, Emptied, Merged, Replaceable, Alike}
use Rattle.elimination.proofs.Places.{place_none, place_suc, place_rises, place_all}
use Rattle.elimination.proofs.Fill.{targets_suc, count_suc, only_none, only_some}
use Rattle.elimination.proofs.Along.{weight_some, weight_none}
use Rattle.elimination.proofs.Merging.{merged}

-- The states below j, and the next.
mod_suc : (t j : ℕ) → t % 2 ^ suc j ≡ bit t j * 2 ^ j + t % 2 ^ j
mod_suc t j = let e : suc j ≡ 1 + j = omega arith in ap (λ z. t % 2 ^ z) e ∙ mod-pow-add t 1 j

-- p is the row, l has the new numbers before the weight to s, and u those behind it too, one place further up.
module _ {s d w : ℕ} {pivot p l u : List ℕ} (h : Replaceable s d pivot p) (a : Alike d pivot p)
    (b : Beside d w (weights_at + place_of (targets_of p) s) pivot p l) (k : Closed d w (weights_at + place_of (targets_of p) s) (end_of_part p) pivot l u) where
  abbrev t : ℕ
  t = targets_of p

  abbrev c : ℕ → ℕ
  c = mixed s d w p pivot

  -- A number of both rows at the place of target j.
  weight_here : (j : ℕ) → bit t j ≡ 1 → (j ≡ s → ⊥) → c j ≡ get_or p (weights_at + place_of t j) 0 * d + w * get_or pivot (weights_at + place_of t j) 0
  weight_here j e n =
      rw (ne_eqb j s n, weight_some p j e, weight_some pivot j (sym (ap (λ z. bit z j) a.same) ∙ e), ← a.same)

  -- The new row has a weight to each target but s, and to no other state.
  some_there : (j : ℕ) → bit t j ≡ 1 → (j ≡ s → ⊥) → 0 < c j
  some_there j e n = omega (arith, weight_here j e n, mul-le-mul (h.weights j e) a.some)

  none_there : (j : ℕ) → (bit t j ≡ 1 → ⊥) → c j ≡ 0
  none_there j n =
      let y : weight_of pivot j ≡ 0 = weight_none pivot j (λ e. n (ap (λ z. bit z j) a.same ∙ e)) in
      ⊎_elim
      (λ (e : j ≡ s). rw (eq-eqb j s e))
      (λ (m : j ≡ s → ⊥). rw (ne_eqb j s m, weight_none p j n, y) (omega arith))
      (same j s)

  own_there : c s ≡ 0
  own_there = rw (eq-eqb s s refl)

  -- So up to s places and targets are those of the row, and behind it there is one less.
  before : (j : ℕ) → j ≤ s → (count_to c j ≡ place_of t j) × (targets_to c j ≡ t % 2 ^ j)
  unfolding sum_to
  before zero z = (sym (place_none t), sym (mod-one t))
  before (suc j) z =
      let i = before j (omega arith) in
      let n : j ≡ s → ⊥ = λ e. omega arith in
      ⊎_elim
      (λ (e : bit t j ≡ 1). (
        omega (arith, i.0, count_suc c j, only_some (c j) 1 (some_there j e n), place_suc t j),
        omega (arith, i.1, targets_suc c j, only_some (c j) (2 ^ j) (some_there j e n), mod_suc t j, ap (λ z. z * 2 ^ j) e),
      ))
      (λ (f : bit t j ≡ 1 → ⊥).
      let q : bit t j ≡ 0 = omega arith in (
        omega (arith, i.0, count_suc c j, only_none (c j) 1 (none_there j f), place_suc t j),
        omega (arith, i.1, targets_suc c j, only_none (c j) (2 ^ j) (none_there j f), mod_suc t j, ap (λ z. z * 2 ^ j) q),
      ))
      (same (bit t j) 1)

  behind : (j : ℕ) → s < j → (suc (count_to c j) ≡ place_of t j) × (targets_to c j + 2 ^ s ≡ t % 2 ^ j)
  unfolding sum_to
  behind zero z = absurd (omega arith)
  behind (suc j) z =
      last_or_below z
      (λ (e : s ≡ j).
      let i = before j (omega arith) in
      let o : bit t j ≡ 1 = ap (bit t) (sym e) ∙ h.target in
      let g : c j ≡ 0 = ap c (sym e) ∙ own_there in (
        omega (arith, i.0, count_suc c j, only_none (c j) 1 g, place_suc t j),
        omega (arith, i.1, targets_suc c j, only_none (c j) (2 ^ j) g, mod_suc t j, ap (λ z. z * 2 ^ j) o, ap (λ z. 2 ^ z) e),
      ))
      (λ (m : s < j).
      let i = behind j m in
      let n : j ≡ s → ⊥ = λ e. omega arith in
      ⊎_elim
      (λ (e : bit t j ≡ 1). (
        omega (arith, i.0, count_suc c j, only_some (c j) 1 (some_there j e n), place_suc t j),
        omega (arith, i.1, targets_suc c j, only_some (c j) (2 ^ j) (some_there j e n), mod_suc t j, ap (λ z. z * 2 ^ j) e),
      ))
      (λ (f : bit t j ≡ 1 → ⊥).
      let q : bit t j ≡ 0 = omega arith in (
        omega (arith, i.0, count_suc c j, only_none (c j) 1 (none_there j f), place_suc t j),
        omega (arith, i.1, targets_suc c j, only_none (c j) (2 ^ j) (none_there j f), mod_suc t j, ap (λ z. z * 2 ^ j) q),
      ))
      (same (bit t j) 1))

  pub own_target : t < 2 ^ most_states → 2 ^ s ≤ t
  own_target few = omega (arith, (behind most_states h.state).1, mod-eq_of_lt {n = t} {m = 2 ^ most_states} few)

  joined_targets : t < 2 ^ most_states → t - 2 ^ s ≡ targets_to c most_states
  joined_targets few = omega (arith, (behind most_states h.state).1, mod-eq_of_lt {n = t} {m = 2 ^ most_states} few)

  -- The weights of the new row stand side by side.
  module _ {z : List ℕ} (m : Emptied l z) (few : t < 2 ^ most_states) where
    joined_new : (i : ℕ) → i < most_states → 0 < c i → get_or u (weights_at + count_to c i) 0 ≡ c i
    joined_new i l' y =
        let e : bit t i ≡ 1 = ⊎_elim (λ (e : bit t i ≡ 1). e) (λ (f : bit t i ≡ 1 → ⊥). absurd (omega (arith, none_there i f))) (same (bit t i) 1) in
        let n : i ≡ s → ⊥ = λ q. omega (arith, ap c q, own_there) in
        let r : place_of t i < ones t = omega (arith, place_rises t i most_states l' e, place_all t most_states few) in
        ⊎_elim
        (λ (g : i < s).
        let v : weights_at + place_of t i < weights_at + place_of t s = omega (arith, place_rises t i s g e) in
        ap (λ q. get_or u (weights_at + q) 0) (before i (omega arith)).0 ∙ k.front (weights_at + place_of t i) v ∙ b.new (weights_at + place_of t i) (omega arith) v ∙ sym (weight_here i e n))
        (λ (g : s ≤ i).
        let g' : s < i = ⊎_elim (λ (o : s ≡ i). absurd (n (sym o))) (λ (o : s ≡ i → ⊥). omega arith) (same s i) in
        let q : suc (weights_at + count_to c i) ≡ weights_at + place_of t i = omega (arith, (behind i g').0) in
        let v : weights_at + place_of t s ≤ weights_at + count_to c i = omega (arith, place_rises t s i g' h.target) in
        k.moved (weights_at + count_to c i) v (omega arith)
        ∙ ap (λ x. x * d + w * get_or pivot (suc (weights_at + count_to c i)) 0) (b.past (suc (weights_at + count_to c i)) (omega arith))
        ∙ ap (λ x. get_or p x 0 * d + w * get_or pivot x 0) q
        ∙ sym (weight_here i e n))
        (below i s)

    joined_filled : Filled c z most_states u
    joined_filled =
        record {
          len = k.len ∙ sym m.len;
          front = λ q g. k.front q (omega arith) ∙ sym (m.front q g);
          new = joined_new;
          rest = λ q g.
              ⊎_elim
              (λ (e : suc q ≡ end_of_part p). k.last q e)
              (λ (n : suc q ≡ end_of_part p → ⊥).
              let o : end_of_part p ≤ q = omega (arith, (behind most_states h.state).0, place_all t most_states few) in
              k.past q o ∙ b.past q (omega (arith, place_rises t s most_states h.state h.target, place_all t most_states few)) ∙ h.rest q o)
              (same (suc q) (end_of_part p));
        }

    pub joined : {v : List ℕ} → v ≡ set u 0 (t - 2 ^ s) → Merged s d w pivot p v
    joined e = merged (omega arith) b m s (omega (arith, h.held)) (joined_targets few, joined_filled) e
