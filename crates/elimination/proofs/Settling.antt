-- What is kept of a packed row: its lowest terms, and where they do not fit in the bounds engine, what they are rounded to.
use Prim.Native.Nat.{ℕ, ◌+◌, ◌-◌, ◌/◌, ◌^◌, ◌≤◌, ◌<◌}
use mathlib.Core.Path.{◌≡◌, refl, sym, ap, subst, ◌∙◌}
use mathlib.Core.Bool.{Bool, true, false}
use mathlib.Core.List.{List}
use native.Mathlib.Omega.{arith}
use lib.Count.{ones}
use lib.ListN.{length, get_or, set, length-set}
use lib.Seq.{get_or-set_other, set-set}
use borrow.Rule.Slice.PartMut.{mid_of, put_mid}
use Rattle.meaning.specs.Chain.{most_states, M}
use Rattle.meaning.specs.Number.{sum_to, bit}
use Rattle.meaning.specs.Row.{Row, cell, total, reward, divisor, over, lowest, up_to, shift_of, rounded, bounded, settled, reward_column, unknown_column}
use Rattle.theory.specs.Numbers.Shift.{shift_fits}
use Rattle.std.specs.Prelude.{Option}
use Rattle.elimination.specs.Packed.{targets_of, reward_at, goal_at, trap_at, unknown_at, weights_at, end_of_part, states_of, unpacked, Below, Packed}
use Rattle.elimination.specs.Row.{Summable, Fit, Tested, Shifted}
use Rattle.elimination.specs.declared.row.Lowered.{Lowered}
use Rattle.elimination.specs.Filled.{Squeezable, Squeezed}
use Rattle.elimination.proofs.Fill.{count_full}
use Rattle.elimination.proofs.Unpacked.{unpacked_length, reward_stands}
use Rattle.elimination.proofs.Replacing.{unsqueezed}
use Rattle.elimination.proofs.Laws.{fit_small, small_modest, unpacked_set}
use Rattle.elimination.proofs.Stored.{Divided, lowered, stored_over, apart_over, weights_length, weight_over, others_over, stored_divisor, divided_end, divided_rest, divided_row, divided_summable, lowest_packed}
use Rattle.elimination.proofs.Rows.{rest_up, round_is, round_fits, bounded_off, over_unpaid, settled_fit}

-- What is stored of p was lent and divided.
pub lent_over : {n d e : ℕ} {p x : List ℕ} → Packed n p → Summable n p → e ≡ end_of_part p → x ≡ over d (mid_of reward_at (e - reward_at) p)
    → Divided d p (put_mid reward_at (e - reward_at) p x)
lent_over {d = d} {p = p} k s ee ex = rw (ex, ee) (stored_over d p s.held k.rest)

module _ {n e : ℕ} {p : List ℕ} (s : Summable n p) (ee : e ≡ end_of_part p) where
  pub lent_divisor : divisor (mid_of reward_at (e - reward_at) p) ≡ divisor (unpacked n p)
  lent_divisor = rw ee (stored_divisor n p s.inside s.held)

  pub lent_lowest : {x : List ℕ} → Packed n p → x ≡ lowest (mid_of reward_at (e - reward_at) p)
      → Divided (divisor (unpacked n p)) p (put_mid reward_at (e - reward_at) p x)
  lent_lowest k ex = lent_over k s ee (ex ∙ rw lent_divisor)

-- The part p, divided, is v: a row of as many states.
module _ {d : ℕ} {p v : List ℕ} (h : Divided d p v) where
  states : states_of v ≡ states_of p
  states = ap (λ l. l - 4) h.len

  pub divided_total : {e : ℕ} → Summable (states_of p) p → e ≡ end_of_part p → Summable (states_of v) v × (e ≡ end_of_part v)
  divided_total s ee = (subst (λ m. Summable m v) (sym states) (divided_summable h (states_of p) s), ee ∙ sym (divided_end h))

-- Divided by its own divisor, it is in lowest terms.
module _ {p v : List ℕ} (h : Divided (divisor (unpacked (states_of p) p)) p v) (k : Packed (states_of p) p) where
  abbrev n : ℕ
  n = states_of p

  pub lowest_ready : {e : ℕ} → n ≤ most_states → Summable n p → e ≡ end_of_part p → reward n (unpacked n p) ≡ 0
      → let m = states_of v in
      (m ≤ most_states) × Packed m v × (e ≡ end_of_part v) × Summable m v × (reward m (unpacked m v) ≡ 0)
  lowest_ready {e} few s ee z =
      subst (λ m. (m ≤ most_states) × Packed m v × (e ≡ end_of_part v) × Summable m v × (reward m (unpacked m v) ≡ 0)) (sym (states h)) (
        few,
        lowest_packed h refl k,
        ee ∙ sym (divided_end h),
        divided_summable h n s,
        rw (divided_row h n) (over_unpaid n (unpacked n p) _ z),
      )

  pub kept_exact : (b : Bool) → b ≡ false → Packed n v × (unpacked n v ≡ settled b n (unpacked n p))
  unfolding settled
  kept_exact b e = (lowest_packed h refl k, divided_row h n ∙ bounded_off n (lowest (unpacked n p)) b e)

  pub kept_tested : {b : Bool} {taken : ℕ} {answer : Option ℕ} → b ≡ false → Tested false (states_of v) (unpacked (states_of v) v) taken answer
      → Tested b n (unpacked n v) taken answer
  kept_tested {taken = taken} {answer = answer} e t = rw e (subst (λ m. Tested false m (unpacked m v) taken answer) (states h) t)

  pub kept_rounded : {z : List ℕ} (b : Bool) → b ≡ true → reward n (unpacked n p) ≡ 0
      → (let m = states_of v in Packed m z × (unpacked m z ≡ bounded true m (unpacked m v)) × (total m (unpacked m z) ≤ M))
      → Packed n z × (unpacked n z ≡ settled b n (unpacked n p)) × Fit b n (unpacked n z)
  unfolding settled
  kept_rounded {z} b e zero-reward t =
      let u = subst (λ m. Packed m z × (unpacked m z ≡ bounded true m (unpacked m v)) × (total m (unpacked m z) ≤ M)) (states h) t in
      let q = u.1 ∙ ap (bounded true n) (divided_row h n) in
      (u.0, q ∙ rw e, settled_fit n (unpacked n p) (unpacked n z) b e q u.2 zero-reward)

-- A part p that is to be rounded: its numbers end at e, its total is t, and it is divided by 2 ^ k.
pub record Ready (k e t : ℕ) (p : List ℕ) : Type 0 where
  pub packed : Packed (states_of p) p
  pub summable : Summable (states_of p) p
  pub ends : e ≡ end_of_part p
  pub whole : t ≡ total (states_of p) (unpacked (states_of p) p)
  pub least : k ≡ shift_of t
  pub unpaid : reward (states_of p) (unpacked (states_of p) p) ≡ 0

module _ {k e t : ℕ} {p : List ℕ} (g : Ready k e t p) where
  abbrev l : ℕ
  l = states_of p

  total_fits : up_to t k ≤ M
  total_fits = rw g.least (shift_fits t)

  -- Its weights, divided, fit together.
  pub weights_fit : let y = mid_of weights_at (e - weights_at) p in sum_to (cell (over (2 ^ k) y)) (length y) ≤ M
  weights_fit =
      rw g.ends
      (let h = stored_over (2 ^ k) p g.summable.held g.packed.rest in
      omega (arith, total_fits, others_over h g.summable, rest_up l k (unpacked l p) _ (divided_row h l) t g.whole))

  -- They were lent and have come back as x.
  module _ {x : List ℕ} {answer : Lowered} (c : Shifted k (mid_of weights_at (e - weights_at) p) x answer) where
    abbrev w : List ℕ
    w = lowered (2 ^ k) e p x

    -- With Unknown divided too it is the part divided.
    abbrev v : List ℕ
    v = set w unknown_at (get_or p unknown_at 0 / 2 ^ k)

    h : Divided (2 ^ k) p v
    h = rw (c.each, g.ends) (apart_over (2 ^ k) p g.summable.held g.packed.rest (sym ((reward_stands l).here p) ∙ g.unpaid))

    abbrev row : Row
    row = unpacked l v

    abbrev s : ℕ
    s = answer.sum + get_or p goal_at 0 / 2 ^ k + get_or p trap_at 0 / 2 ^ k

    -- All columns but Unknown.
    others : s ≡ sum_to (cell row) (unknown_column l)
    others =
        ap (λ z. z + get_or p goal_at 0 / 2 ^ k + get_or p trap_at 0 / 2 ^ k) (rw (c.each, g.ends) at c.sum)
        ∙ others_over h g.summable

    others_up : s ≤ up_to t k
    others_up = omega (arith, others, rest_up l k (unpacked l p) row (divided_row h l) t g.whole)

    pub others_fit : s ≤ M
    others_fit = omega (arith, others_up, total_fits)

    -- Topped up, it is rounded.
    module _ {u : ℕ} (eu : u ≡ up_to t k) where
      pub others_within : s ≤ u
      others_within = omega (arith, others_up)

      abbrev topped_part : List ℕ
      topped_part = set w unknown_at (u - s)

      pub topped_length : length topped_part ≡ length p
      topped_length = length-set w unknown_at (u - s) ∙ sym (length-set w unknown_at (get_or p unknown_at 0 / 2 ^ k)) ∙ h.len

      topped_other : (q : ℕ) → (q ≡ unknown_at → ⊥) → get_or topped_part q 0 ≡ get_or v q 0
      topped_other q n = get_or-set_other w unknown_at q (u - s) 0 n ∙ sym (get_or-set_other w unknown_at q (get_or p unknown_at 0 / 2 ^ k) 0 n)

      topped_row : unpacked l topped_part ≡ set row (unknown_column l) (u - s)
      topped_row =
          ap (unpacked l) (sym (set-set w unknown_at (get_or p unknown_at 0 / 2 ^ k) (u - s)))
          ∙ unpacked_set l v (u - s) (omega (arith, h.len, g.summable.held))

      rounded_row : unpacked l topped_part ≡ rounded l (unpacked l p)
      rounded_row = topped_row ∙ round_is l (unpacked l p) row g.whole g.least (divided_row h l) others eu

      rounded_total : total l (unpacked l topped_part) ≤ M
      rounded_total = rw topped_row (round_fits l (unpacked l p) row g.whole g.least (divided_row h l) others eu (unpacked_length l v))

      same_targets : targets_of topped_part ≡ targets_of p
      same_targets = topped_other 0 (λ e. omega arith) ∙ h.targets

      rounded_unpaid : reward l (unpacked l topped_part) ≡ 0
      rounded_unpaid =
          rw topped_row
          (get_or-set_other row (unknown_column l) (reward_column l) _ 0 (λ e. omega arith)
          ∙ ap (λ (r : Row). reward l r) (divided_row h l)
          ∙ over_unpaid l (unpacked l p) (2 ^ k) g.unpaid)

      inside : Below l topped_part
      inside j b = g.packed.inside j (sym (ap (λ t. bit t j) same_targets) ∙ b)

      rest : (q : ℕ) → end_of_part topped_part ≤ q → get_or topped_part q 0 ≡ 0
      rest q b = topped_other q (λ e. omega arith) ∙ divided_rest h g.packed.rest q (omega (arith, ap ones same_targets, divided_end h))

      pub rounded_squeezable : targets_of p < 2 ^ most_states → Squeezable topped_part
      rounded_squeezable few =
          let fit : Fit true l (unpacked l topped_part) = record { weights = rounded_total; earned = omega (arith, rounded_unpaid); unpaid = λ _. rounded_unpaid } in
          record {
            few = rw same_targets few;
            room = omega (arith, ap ones same_targets, topped_length, g.summable.held);
            rest = rest;
            fits = small_modest l topped_part inside rest (fit_small l (unpacked l topped_part) fit);
          }

      pub rounded_squeezed : {y : List ℕ} → l ≤ most_states → Squeezed topped_part y
          → Packed l y × (unpacked l y ≡ rounded l (unpacked l p)) × (total l (unpacked l y) ≤ M)
      rounded_squeezed few q = (
        q.packed l (topped_length ∙ g.summable.size) inside,
        q.row l few ∙ rounded_row,
        rw (q.row l few) rounded_total,
      )

      -- Where all weights are above 0 still, it stays so.
      pub rounded_whole : targets_of p < 2 ^ most_states → l ≤ most_states → answer.some ≡ e - weights_at
          → Packed l topped_part × (unpacked l topped_part ≡ rounded l (unpacked l p)) × (total l (unpacked l topped_part) ≤ M)
      rounded_whole small few all =
          rounded_squeezed few
          (unsqueezed topped_part (rounded_squeezable small)
          (λ i b.
          let y = mid_of weights_at (end_of_part p - weights_at) p in
          let m : i < ones (targets_of p) = omega (arith, ap ones same_targets) in
          omega (
            arith,
            topped_other (weights_at + i) (λ e. omega arith),
            weight_over h g.summable i m,
            weights_length h g.summable,
            count_full (cell (over (2 ^ k) y)) (length y)
                (omega (arith, rw (c.each, g.ends) at c.some, g.ends, weights_length h g.summable))
                i (omega (arith, weights_length h g.summable)),
          )))
