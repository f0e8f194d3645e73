-- The weights of a row, written side by side.
use Prim.Native.Nat.{ℕ, zero, suc, ◌+◌, ◌-◌, ◌*◌, ◌%◌, ◌^◌, ◌≤◌, ◌<◌}
use mathlib.Core.Path.{◌≡◌, refl, sym, ap, ◌∙◌}
use mathlib.Core.Logic.{⊎_elim}
use mathlib.Core.List.{List}
use native.Mathlib.Omega.{arith}
use native.Mathlib.Nat.{mod-eq_of_lt, mul-le-mul_left, pow-succ'}
use lib.Pow.{mod-mod-pow, pow_mono, low}
use lib.Count.{ones, ones_in, ones_cat}
use lib.Dec.{ltb}
use lib.ListN.{length, get_or, set, length-set}
use lib.Seq.{get_or-set_same, get_or-set_other}
use borrow.Author.Tests.{lt-ltb, le-ltb}
use Rattle.meaning.specs.Number.{sum_to, only, bit}
use Rattle.theory.specs.Numbers.Sum.{same, below, last_or_below, sum_up}
use Rattle.chain.specs.Rising.{place_of}
use Rattle.elimination.specs.Packed.{weights_at}
use Rattle.elimination.specs.Filled.{count_to, targets_to, Filled}
use Rattle.elimination.proofs.Places.{place_suc, bit_ones}

-- A weight is 0 or above.
pub weighed {ℓ} : {P : Type ℓ} (v : ℕ) → (v ≡ 0 → P) → (0 < v → P) → P
weighed v z s = ⊎_elim (λ (h : 0 < v). s h) (λ (h : v ≤ 0). z (omega arith)) (below 0 v)

pub only_none : (v x : ℕ) → v ≡ 0 → only (ltb 0 v) x ≡ 0
only_none v x e = rw (le-ltb 0 v (omega arith))

pub only_some : (v x : ℕ) → 0 < v → only (ltb 0 v) x ≡ x
only_some v x h = rw (lt-ltb 0 v h)

pub only_le : (v x : ℕ) → only (ltb 0 v) x ≤ x
only_le v x = weighed v (λ e. omega (arith, only_none v x e)) (λ h. omega (arith, only_some v x h))

module _ (c : ℕ → ℕ) where
  -- One column more.
  pub targets_suc : (j : ℕ) → targets_to c (suc j) ≡ targets_to c j + only (ltb 0 (c j)) (2 ^ j)
  unfolding sum_to
  targets_suc j = refl

  pub count_suc : (j : ℕ) → count_to c (suc j) ≡ count_to c j + only (ltb 0 (c j)) 1
  unfolding sum_to
  count_suc j = refl

  pub targets_none : (j : ℕ) → c j ≡ 0 → targets_to c (suc j) ≡ targets_to c j
  targets_none j e = omega (arith, targets_suc j, only_none (c j) (2 ^ j) e)

  pub count_none : (j : ℕ) → c j ≡ 0 → count_to c (suc j) ≡ count_to c j
  count_none j e = omega (arith, count_suc j, only_none (c j) 1 e)

  targets_some : (j : ℕ) → 0 < c j → targets_to c (suc j) ≡ 1 * 2 ^ j + targets_to c j
  targets_some j h = omega (arith, targets_suc j, only_some (c j) (2 ^ j) h)

  count_some : (j : ℕ) → 0 < c j → count_to c (suc j) ≡ suc (count_to c j)
  count_some j h = omega (arith, count_suc j, only_some (c j) 1 h)

  -- Columns with no weight change nothing.
  pub targets_stay : (j t : ℕ) → ((i : ℕ) → i < t → c (j + i) ≡ 0) → targets_to c (j + t) ≡ targets_to c j
  targets_stay j zero h = ap (targets_to c) (omega arith)
  targets_stay j (suc t) h =
      let e : j + suc t ≡ suc (j + t) = omega arith in
      ap (targets_to c) e ∙ targets_none (j + t) (h t (omega arith)) ∙ targets_stay j t (λ i b. h i (omega arith))

  pub count_stays : (j t : ℕ) → ((i : ℕ) → i < t → c (j + i) ≡ 0) → count_to c (j + t) ≡ count_to c j
  count_stays j zero h = ap (count_to c) (omega arith)
  count_stays j (suc t) h =
      let e : j + suc t ≡ suc (j + t) = omega arith in
      ap (count_to c) e ∙ count_none (j + t) (h t (omega arith)) ∙ count_stays j t (λ i b. h i (omega arith))

  -- There are at most as many as columns, and where there are as many, each column has a weight.
  pub count_most : (j : ℕ) → count_to c j ≤ j
  unfolding sum_to
  count_most zero = omega arith
  count_most (suc j) = omega (arith, count_most j, count_suc j, only_le (c j) 1)

  pub count_full : (j : ℕ) → count_to c j ≡ j → (i : ℕ) → i < j → 0 < c i
  count_full zero e i h = absurd (omega arith)
  count_full (suc j) e i h =
      last_or_below h
      (λ (q : i ≡ j). rw q (weighed (c j) (λ z. absurd (omega (arith, count_none j z, count_most j))) (λ w. w)))
      (λ (b : i < j). count_full j (omega (arith, count_suc j, only_le (c j) 1, count_most j)) i b)

  pub count_rises : (i j : ℕ) → i < j → 0 < c i → count_to c i < count_to c j
  count_rises i j h p = omega (arith, sum_up (λ i. only (ltb 0 (c i)) 1) i j h, only_some (c i) 1 p)

  pub targets_lt : (j : ℕ) → targets_to c j < 2 ^ j
  unfolding sum_to
  targets_lt zero = omega arith
  targets_lt (suc j) =
      weighed (c j)
      (λ e. omega (arith, pow-succ' 2 j, targets_lt j, targets_none j e))
      (λ h. omega (arith, pow-succ' 2 j, targets_lt j, targets_some j h))

  -- Cut off at a column, the set is that of the columns before it.
  targets_mod : (m j : ℕ) → j ≤ m → targets_to c m % 2 ^ j ≡ targets_to c j
  unfolding sum_to
  targets_mod zero j h = let e : j ≡ 0 = omega arith in rw e
  targets_mod (suc m) j h =
      last_or_below {j = j} {n = suc m} (omega arith)
      (λ (e : j ≡ suc m). rw e (mod-eq_of_lt {n = targets_to c (suc m)} {m = 2 ^ suc m} (targets_lt (suc m))))
      (λ (l : j < suc m).
      weighed (c m)
      (λ e. ap (λ t. t % 2 ^ j) (targets_none m e) ∙ targets_mod m j (omega arith))
      (λ p.
      let x = 1 * 2 ^ m + targets_to c m in
      let q : (m - j) + j ≡ m = omega arith in
      ap (λ t. t % 2 ^ j) (targets_some m p)
      ∙ sym (mod-mod-pow x (m - j) j)
      ∙ ap (λ t. x % 2 ^ t % 2 ^ j) q
      ∙ ap (λ t. t % 2 ^ j) (low 1 m (targets_lt m))
      ∙ targets_mod m j (omega arith)))

  -- A column's place is the count of weights before it.
  pub count_ones : (j : ℕ) → ones (targets_to c j) ≡ count_to c j
  unfolding sum_to ones ones_in
  count_ones zero = refl
  count_ones (suc j) =
      weighed (c j)
      (λ e. ap ones (targets_none j e) ∙ count_ones j ∙ sym (count_none j e))
      (λ p.
      ap ones (targets_some j p)
      ∙ ones_cat j 1 (targets_to c j) (targets_lt j)
      ∙ rw (bit_ones 1 (omega arith), count_ones j) (omega (arith, count_some j p)))

  pub place_count : (m j : ℕ) → j ≤ m → place_of (targets_to c m) j ≡ count_to c j
  place_count m j h = ap ones (targets_mod m j h) ∙ count_ones j

  pub bit_target : (m j : ℕ) → j < m → bit (targets_to c m) j ≡ only (ltb 0 (c j)) 1
  bit_target m j h = omega (arith, place_suc (targets_to c m) j, place_count m j (omega arith), place_count m (suc j) h, count_suc j)

  pub bit_none : (m j : ℕ) → j < m → c j ≡ 0 → bit (targets_to c m) j ≡ 0
  bit_none m j h e = bit_target m j h ∙ only_none (c j) 1 e

  pub bit_some : (m j : ℕ) → j < m → 0 < c j → bit (targets_to c m) j ≡ 1
  bit_some m j h p = bit_target m j h ∙ only_some (c j) 1 p

  -- Weights only where a set has a state: no more of them.
  pub count_place : (u : ℕ) → ((i : ℕ) → bit u i ≡ 0 → c i ≡ 0) → (j : ℕ) → count_to c j ≤ place_of u j
  unfolding sum_to
  count_place u h zero = omega arith
  count_place u h (suc j) =
      weighed (c j)
      (λ e. omega (arith, count_none j e, place_suc u j, count_place u h j))
      (λ p.
      let b : bit u j ≡ 0 → ⊥ = λ z. let e = h j z in omega arith in
      omega (arith, count_some j p, place_suc u j, count_place u h j))

-- The loop that writes the weights.
module _ {c : ℕ → ℕ} {l : List ℕ} where
  pub filled_none : ((q : ℕ) → weights_at ≤ q → get_or l q 0 ≡ 0) → Filled c l 0 l
  unfolding sum_to
  filled_none z = record { len = refl; front = λ q h. refl; new = λ i h. absurd (omega arith); rest = λ q h. z q (omega arith) }

  pub filled_pass : {j : ℕ} {p : List ℕ} → c j ≡ 0 → Filled c l j p → Filled c l (suc j) p
  filled_pass {j} e f =
      record {
        len = f.len;
        front = f.front;
        new = λ i h w. last_or_below h (λ (q : i ≡ j). absurd (omega (arith, ap c q))) (λ (b : i < j). f.new i b w);
        rest = λ q h. f.rest q (omega (arith, count_none c j e));
      }

  pub filled_stays : {j : ℕ} {p : List ℕ} (t : ℕ) → ((i : ℕ) → i < t → c (j + i) ≡ 0) → Filled c l j p → Filled c l (j + t) p
  filled_stays {j} {p} zero h f = let e : j ≡ j + 0 = omega arith in rw e at f
  filled_stays {j} {p} (suc t) h f =
      let e : suc (j + t) ≡ j + suc t = omega arith in
      rw e at (filled_pass (h t (omega arith)) (filled_stays t (λ i b. h i (omega arith)) f))

  pub filled_more : {j : ℕ} {p : List ℕ} → Filled c l j p → weights_at + count_to c j < length l → Filled c l (suc j) (set p (weights_at + count_to c j) (c j))
  filled_more {j} {p} f room =
      let k = weights_at + count_to c j in
      let here : get_or (set p k (c j)) k 0 ≡ c j = get_or-set_same p k (c j) 0 (omega (arith, f.len)) in
      let there : (q : ℕ) → (q ≡ k → ⊥) → get_or (set p k (c j)) q 0 ≡ get_or p q 0 = λ q d. get_or-set_other p k q (c j) 0 d in
      record {
        len = length-set p k (c j) ∙ f.len;
        front = λ q h. there q (λ e. omega arith) ∙ f.front q h;
        new = λ i h w.
            last_or_below h
            (λ (q : i ≡ j). rw q here)
            (λ (b : i < j). there (weights_at + count_to c i) (λ e. omega (arith, count_rises c i j b w)) ∙ f.new i b w);
        rest = λ q h.
            ⊎_elim
            (λ (e : q ≡ k).
            weighed (c j) (λ z. rw e (here ∙ z)) (λ s. absurd (omega (arith, count_some c j s))))
            (λ (d : q ≡ k → ⊥). there q d ∙ f.rest q (omega (arith, count_suc c j)))
            (same q k);
      }

-- The columns from j to n are done, the last one first: each of them has its bit in a set, which begins at column j.
pub record Marked (c : ℕ → ℕ) (n j targets : ℕ) : Type 0 where
  pub so_far : j ≤ n
  pub marks : targets * 2 ^ j + targets_to c j ≡ targets_to c n

doubled : (t b x : ℕ) → (t * 2 + b) * x ≡ t * (2 * x) + b * x
doubled t b x = omega arith

module _ {c : ℕ → ℕ} {n : ℕ} where
  pub marked_none : Marked c n n 0
  marked_none = record { so_far = omega arith; marks = omega arith }

  module _ {j targets : ℕ} (g : Marked c n (suc j) targets) where
    raised : targets * 2 ^ suc j ≡ targets * (2 * 2 ^ j)
    raised = ap (λ z. targets * z) (pow-succ' 2 j)

    pub marked_more : {b : ℕ} → b ≡ only (ltb 0 (c j)) 1 → Marked c n j (targets * 2 + b)
    marked_more {b} e =
        let one : b * 2 ^ j ≡ only (ltb 0 (c j)) (2 ^ j) =
        weighed (c j)
        (λ z. ap (λ y. y * 2 ^ j) (e ∙ only_none (c j) 1 z) ∙ omega (arith, only_none (c j) (2 ^ j) z))
        (λ z. ap (λ y. y * 2 ^ j) (e ∙ only_some (c j) 1 z) ∙ omega (arith, only_some (c j) (2 ^ j) z)) in
        record { so_far = omega (arith, g.so_far); marks = omega (arith, doubled targets b (2 ^ j), raised, one, g.marks, targets_suc c j) }

    -- There is room for one bit more.
    pub marked_small : targets * 2 < 2 ^ n
    marked_small = omega (arith, g.marks, targets_lt c n, raised, mul-le-mul_left targets (mul-le-mul_left 2 (pow_mono {i = 0} {j = j} (omega arith))))

  pub marked_all : {j targets : ℕ} → Marked c n j targets → j ≤ 0 → targets ≡ targets_to c n
  unfolding sum_to
  marked_all {j} {targets} g h = let z : j ≡ 0 = omega arith in omega (arith, g.marks, ap (λ i. targets * 2 ^ i) z, ap (targets_to c) z)
