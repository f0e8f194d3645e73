-- The numbers of a packed row as they are stored, from Reward on or from Goal on: their sum, their divisor, and all of them divided.
use Prim.Native.Nat.{ℕ, zero, suc, ◌+◌, ◌-◌, ◌/◌, ◌^◌, ◌≤◌, ◌<◌, ◌∣◌}
use mathlib.Core.Path.{◌≡◌, refl, sym, ap, ◌∙◌}
use mathlib.Core.Logic.{⊎_elim}
use mathlib.Core.List.{List, [], ◌∷◌}
use native.Mathlib.Omega.{arith}
use native.Mathlib.Nat.{zero-div, dvd_antisymm, dvd-zero}
use lib.Count.{ones}
use lib.ListN.{length, get_or, set, length-set}
use lib.Seq.{get_or-set_same, get_or-set_other}
use borrow.Rule.Slice.PartMut.{mid_of, put_mid, mid_len}
use native.Mathlib.Numerals.{one-add}
use Rattle.std.specs.Prelude.{sum}
use Rattle.std.proofs.lemmas.List.Sums.{sum_by-cons}
use Rattle.meaning.specs.Number.{sum_to, bit}
use Rattle.meaning.specs.Row.{cell, total, gcd_of, divisor, over, lowest, reward_column, unknown_column}
use Rattle.theory.specs.Numbers.Sum.{same, below, sum_ext, sum_next, sum_join}
use Rattle.theory.specs.Numbers.Bits.{set_below}
use Rattle.theory.specs.Rows.Terms.{gcd_divides, gcd_most, lowest_positive, over_cell, over_length}
use Rattle.elimination.specs.Packed.{targets_of, reward_at, goal_at, trap_at, unknown_at, weights_at, end_of_part, weight_of, unpacked, Below, Packed}
use Rattle.elimination.specs.Row.{Summable}
use Rattle.elimination.proofs.Places.{place_sum, place_all, place_rises}
use Rattle.elimination.proofs.Along.{weight_some, weight_none}
use Rattle.elimination.proofs.Unpacked.{unpacked_length, unpacked_weight, each_column, each_front, goal_stands, trap_stands, unknown_stands}
use Rattle.elimination.proofs.Middle.{put_length, put_before, put_within, put_past, mid_at}
use Rattle.chain.proofs.Lowest.{over_sum}
use Rattle.elimination.proofs.Laws.{packed_bit, unpacked_over, each_weight}

-- The sum of a list is that of its cells.
pub sum_cells : (xs : List ℕ) → sum xs ≡ sum_to (cell xs) (length xs)
unfolding sum_to
sum_cells [] = refl
sum_cells (x ∷ xs) =
    let f = cell (x ∷ xs) in
    let m : 1 + length xs ≡ suc (length xs) = omega arith in
    let e : sum_to f (1 + length xs) ≡ sum_to f (suc (length xs)) = ap (sum_to f) m in
    omega (
      arith,
      e,
      sum_by-cons (λ (y : ℕ). y) x xs,
      sum_cells xs,
      sum_join f 1 (length xs),
      sum_ext (λ j. f (1 + j)) (cell xs) (length xs) (λ j h. rw one-add),
    )

-- The total is the sum of Goal, Trap, Unknown and the weights as they are stored.
module _ (n : ℕ) (p : List ℕ) (inside : Below n p) (held : end_of_part p ≤ length p) where
  few : targets_of p < 2 ^ n
  few = set_below n (targets_of p) inside

  weights_sum : sum_to (cell (unpacked n p)) n ≡ sum_to (λ k. get_or p (weights_at + k) 0) (ones (targets_of p))
  unfolding weight_of
  weights_sum =
      sum_ext (cell (unpacked n p)) (weight_of p) n (λ j h. unpacked_weight n p j h)
      ∙ place_sum (targets_of p) (λ k. get_or p (weights_at + k) 0) n
      ∙ ap (sum_to (λ k. get_or p (weights_at + k) 0)) (place_all (targets_of p) n few)

  -- From Goal on.
  abbrev summed : List ℕ
  summed = mid_of goal_at (end_of_part p - goal_at) p

  summed_at : (i : ℕ) → i < 3 + ones (targets_of p) → cell summed i ≡ get_or p (goal_at + i) 0
  summed_at i h = mid_at goal_at (end_of_part p) p i (omega arith)

  pub stored_total : sum_to (cell summed) (length summed) ≡ total n (unpacked n p)
  unfolding sum_to
  stored_total =
      let f = cell summed in
      let m = ones (targets_of p) in
      let e : length summed ≡ 3 + m = mid_len goal_at (end_of_part p) p held ∙ omega arith in
      let past : sum_to (λ k. f (3 + k)) m ≡ sum_to (λ k. get_or p (weights_at + k) 0) m =
      sum_ext (λ k. f (3 + k)) (λ k. get_or p (weights_at + k) 0) m (λ k l. summed_at (3 + k) (omega arith) ∙ ap (λ q. get_or p q 0) (omega arith)) in
      ap (sum_to f) e
      ∙ omega (
        arith,
        sum_next (cell (unpacked n p)) (n + 2) (n + 3) (omega arith),
        sum_next (cell (unpacked n p)) (n + 1) (n + 2) (omega arith),
        sum_next (cell (unpacked n p)) n (n + 1) (omega arith),
        (goal_stands n).here p,
        (trap_stands n).here p,
        (unknown_stands n).here p,
        weights_sum,
        sum_join f 3 m,
        summed_at 0 (omega arith),
        summed_at 1 (omega arith),
        summed_at 2 (omega arith),
      )

  -- From Reward on: the divisor is that of the row.
  abbrev stored : List ℕ
  stored = mid_of reward_at (end_of_part p - reward_at) p

  stored_at : (i : ℕ) → suc i < end_of_part p → cell stored i ≡ get_or p (suc i) 0
  stored_at i h = mid_at reward_at (end_of_part p) p i (omega arith) ∙ ap (λ q. get_or p q 0) (omega arith)

  stored_divides : (q : ℕ) → 0 < q → q < end_of_part p → gcd_of stored ∣ get_or p q 0
  stored_divides zero a b = absurd (omega arith)
  stored_divides (suc i) a b = rw (stored_at i b) at (gcd_divides stored i)

  row_divides : (q : ℕ) → 0 < q → q < end_of_part p → gcd_of (unpacked n p) ∣ get_or p q 0
  row_divides q a b =
      ⊎_elim
      (λ (h : q < weights_at). each_front n {P = λ q. gcd_of (unpacked n p) ∣ get_or p q 0} (λ j q s. rw (s.here p) at (gcd_divides (unpacked n p) j)) q a h)
      (λ (h : weights_at ≤ q).
      let w = each_weight n p inside q h b in
      rw w.here at (gcd_divides (unpacked n p) w.state))
      (below q weights_at)

  weight_divides : (j : ℕ) → j < n → gcd_of stored ∣ weight_of p j
  weight_divides j h =
      ⊎_elim
      (λ (b : bit (targets_of p) j ≡ 1).
      rw (weight_some p j b)
      (stored_divides _ (omega arith)
      (omega (arith, place_rises (targets_of p) j n h b, place_all (targets_of p) n few))))
      (λ (d : bit (targets_of p) j ≡ 1 → ⊥). rw (weight_none p j d) (dvd-zero (gcd_of stored)))
      (same (bit (targets_of p) j) 1)

  stored_gcd : gcd_of stored ≡ gcd_of (unpacked n p)
  stored_gcd =
      dvd_antisymm
      (gcd_most (unpacked n p) (gcd_of stored)
      (λ i h.
      each_column n {P = λ j. gcd_of stored ∣ cell (unpacked n p) j}
      (λ j l. rw (unpacked_weight n p j l) (weight_divides j l))
      (λ j q s. rw (s.here p) (stored_divides q s.some (omega (arith, s.front))))
      i (omega (arith, unpacked_length n p))))
      (gcd_most stored (gcd_of (unpacked n p))
      (λ i h.
      let l : suc i < end_of_part p = omega (arith, mid_len reward_at (end_of_part p) p held) in
      rw (stored_at i l) (row_divides (suc i) (omega arith) l)))

  pub stored_divisor : divisor stored ≡ divisor (unpacked n p)
  unfolding divisor
  stored_divisor = rw stored_gcd

-- The same part with each number but that of the targets divided by d.
pub record Divided (d : ℕ) (p v : List ℕ) : Type 0 where
  pub len : length v ≡ length p
  pub targets : targets_of v ≡ targets_of p
  pub numbers : (q : ℕ) → 0 < q → get_or v q 0 ≡ get_or p q 0 / d

-- The same part with each number from place a on divided by d.
record From (a d : ℕ) (p v : List ℕ) : Type 0 where
  len : length v ≡ length p
  front : (q : ℕ) → q < a → get_or v q 0 ≡ get_or p q 0
  numbers : (q : ℕ) → a ≤ q → get_or v q 0 ≡ get_or p q 0 / d

abbrev from : ℕ → ℕ → List ℕ → List ℕ
from a d p = put_mid a (end_of_part p - a) p (over d (mid_of a (end_of_part p - a) p))

-- A part whose weights were lent and have come back as x, with Goal and Trap divided.
abbrev pub lowered : ℕ → ℕ → List ℕ → List ℕ → List ℕ
lowered d e p x = set (set (put_mid weights_at (e - weights_at) p x) goal_at (get_or p goal_at 0 / d)) trap_at (get_or p trap_at 0 / d)

module _ (d : ℕ) (p : List ℕ) (held : end_of_part p ≤ length p) (rest : (q : ℕ) → end_of_part p ≤ q → get_or p q 0 ≡ 0) where
  -- It is divided by dividing what is stored, since zeros follow.
  from_over : (a : ℕ) → a ≤ end_of_part p → From a d p (from a d p)
  from_over a h =
      let e = end_of_part p in
      let s = mid_of a (e - a) p in
      let l : length (over d s) ≡ e - a = over_length d s ∙ mid_len a e p held in
      record {
        len = put_length a e p (over d s) h held l;
        front = put_before a e p (over d s) h held l;
        numbers = λ q b.
            ⊎_elim
            (λ (c : q < e).
            let k : a + (q - a) ≡ q = omega arith in
            sym (ap (λ z. get_or (from a d p) z 0) k)
            ∙ put_within a e p (over d s) h held l (q - a) (omega arith)
            ∙ over_cell d s (q - a)
            ∙ ap (λ z. z / d) (mid_at a e p (q - a) (omega arith) ∙ ap (λ z. get_or p z 0) k))
            (λ (c : e ≤ q). put_past a e p (over d s) h held l q c ∙ rest q c ∙ sym (rw (rest q c) (zero-div d)))
            (below q e);
      }

  pub stored_over : Divided d p (from reward_at d p)
  stored_over =
      let m = from_over reward_at (omega arith) in
      record { len = m.len; targets = m.front 0 (omega arith); numbers = λ q a. m.numbers q (omega arith) }

  own_over : (v : List ℕ) (i q : ℕ) → i < length v → ((q ≡ i → ⊥) → get_or v q 0 ≡ get_or p q 0 / d) → get_or (set v i (get_or p i 0 / d)) q 0 ≡ get_or p q 0 / d
  own_over v i q h f =
      ⊎_elim
      (λ (e : q ≡ i). rw e (get_or-set_same v i (get_or p i 0 / d) 0 h))
      (λ (n : q ≡ i → ⊥). get_or-set_other v i q (get_or p i 0 / d) 0 n ∙ f n)
      (same q i)

  -- So it is by dividing the weights, and each other number but the Reward, which is 0, on its own.
  pub apart_over : get_or p reward_at 0 ≡ 0
      → Divided d p (set (lowered d (end_of_part p) p (over d (mid_of weights_at (end_of_part p - weights_at) p))) unknown_at (get_or p unknown_at 0 / d))
  apart_over z =
      let m = from_over weights_at (omega arith) in
      let y = from weights_at d p in
      let y₁ = set y goal_at (get_or p goal_at 0 / d) in
      let y₂ = set y₁ trap_at (get_or p trap_at 0 / d) in
      let l : weights_at ≤ length y = omega (arith, m.len) in
      let l₁ : weights_at ≤ length y₁ = rw (length-set y goal_at (get_or p goal_at 0 / d)) l in
      let l₂ : weights_at ≤ length y₂ = rw (length-set y₁ trap_at (get_or p trap_at 0 / d)) l₁ in
      record {
        len = simp length-set m.len;
        targets = get_or-set_other y₂ unknown_at 0 (get_or p unknown_at 0 / d) 0 (λ e. omega arith) ∙ get_or-set_other y₁ trap_at 0 (get_or p trap_at 0 / d) 0 (λ e. omega arith)
            ∙ get_or-set_other y goal_at 0 (get_or p goal_at 0 / d) 0 (λ e. omega arith) ∙ m.front 0 (omega arith);
        numbers = λ q a.
            own_over y₂ unknown_at q (omega arith)
            (λ u.
            own_over y₁ trap_at q (omega arith)
            (λ t.
            own_over y goal_at q (omega arith)
            (λ g.
            ⊎_elim
            (λ (b : q < weights_at).
            let e : q ≡ reward_at = omega arith in
            rw e (m.front reward_at (omega arith) ∙ z ∙ sym (rw z (zero-div d))))
            (λ (b : weights_at ≤ q). m.numbers q b)
            (below q weights_at))));
      }

module _ {d : ℕ} {p v : List ℕ} (h : Divided d p v) where
  pub divided_end : end_of_part v ≡ end_of_part p
  divided_end = ap (λ s. weights_at + ones s) h.targets

  pub divided_rest : ((q : ℕ) → end_of_part p ≤ q → get_or p q 0 ≡ 0) → (q : ℕ) → end_of_part v ≤ q → get_or v q 0 ≡ 0
  divided_rest rest q b =
      h.numbers q (omega arith) ∙ ap (λ x. x / d) (rest q (omega (arith, divided_end))) ∙ zero-div d

  module _ (n : ℕ) where
    pub divided_row : unpacked n v ≡ over d (unpacked n p)
    divided_row = unpacked_over d p v h.targets h.numbers n

    pub divided_summable : Summable n p → Summable n v
    divided_summable s =
        record {
          size = h.len ∙ s.size;
          inside = λ j b. s.inside j (sym (ap (λ t. bit t j) h.targets) ∙ b);
          held = omega (arith, divided_end, h.len, s.held);
          bound = rw divided_row (omega (arith, over_sum d (unpacked n p) (reward_column n), s.bound));
        }

-- The weights as they were lent, divided, are those of the part that is divided.
module _ {d n : ℕ} {p v : List ℕ} (h : Divided d p v) (s : Summable n p) where
  abbrev mid : List ℕ
  mid = mid_of weights_at (end_of_part p - weights_at) p

  pub weights_length : length mid ≡ ones (targets_of p)
  weights_length = mid_len weights_at (end_of_part p) p s.held ∙ omega arith

  pub weight_over : (i : ℕ) → i < ones (targets_of p) → cell (over d mid) i ≡ get_or v (weights_at + i) 0
  weight_over i b =
      over_cell d mid i ∙ ap (λ x. x / d) (mid_at weights_at (end_of_part p) p i (omega arith)) ∙ sym (h.numbers (weights_at + i) (omega arith))

  -- And with Goal and Trap they are all columns of it but Unknown and Reward.
  pub others_over : sum_to (cell (over d mid)) (length mid) + get_or p goal_at 0 / d + get_or p trap_at 0 / d ≡ sum_to (cell (unpacked n v)) (unknown_column n)
  others_over =
      let m = divided_summable h n s in
      let f : ℕ → ℕ = λ i. get_or v (weights_at + i) 0 in
      omega (
        arith,
        ap (sum_to (cell (over d mid))) weights_length ∙ sum_ext (cell (over d mid)) f (ones (targets_of p)) weight_over ∙ ap (λ t. sum_to f (ones t)) (sym h.targets),
        weights_sum n v m.inside m.held,
        sum_next (cell (unpacked n v)) (n + 1) (n + 2) (omega arith),
        sum_next (cell (unpacked n v)) n (n + 1) (omega arith),
        (goal_stands n).here v,
        (trap_stands n).here v,
        h.numbers goal_at (omega arith),
        h.numbers trap_at (omega arith),
      )

-- In lowest terms a packed part stays packed: no weight becomes 0.
pub lowest_packed : {d n : ℕ} {p v : List ℕ} → Divided d p v → d ≡ divisor (unpacked n p) → Packed n p → Packed n v
lowest_packed {d} {n} {p} {v} h e k =
    let old : (j : ℕ) → bit (targets_of v) j ≡ 1 → bit (targets_of p) j ≡ 1 = λ j b. sym (ap (λ t. bit t j) h.targets) ∙ b in
    record {
      size = h.len ∙ k.size;
      inside = λ j b. k.inside j (old j b);
      some = λ j b.
          let l = k.inside j (old j b) in
          let w : unpacked n v ≡ lowest (unpacked n p) = divided_row h n ∙ ap (λ x. over x (unpacked n p)) e in
          let s : 0 < cell (unpacked n v) j = rw w (lowest_positive (unpacked n p) j ((packed_bit k j l).0 (old j b))) in
          omega (arith, unpacked_weight n v j l, weight_some v j b);
      rest = divided_rest h k.rest;
    }
