-- How a packed row is written: the weights of a row, column by column, those above 0 side by side.
use Rattle.std.specs.Prelude.{ℕ, suc, ◌+◌, ◌*◌, ◌^◌, ◌≤◌, ◌<◌, ◌≡◌, List, eqb, ltb, length, get_or}
use Rattle.meaning.specs.Chain.{most_states, M}
use Rattle.meaning.specs.Number.{sum_to, only, choose, bit}
use Rattle.meaning.specs.Row.{cell, width}
use Rattle.meaning.specs.Step.{combined}
use Rattle.chain.specs.Rising.{place_of}
use Rattle.elimination.specs.Packed.{targets_of, weights_at, end_of_part, weight_of, unpacked, Below, Packed, Modest, Room}

-- How many of the weights c 0, .., c (j - 1) are above 0, and the set of their columns.
abbrev pub count_to : (ℕ → ℕ) → ℕ → ℕ
count_to c j = sum_to (λ i. only (ltb 0 (c i)) 1) j

abbrev pub targets_to : (ℕ → ℕ) → ℕ → ℕ
targets_to c j = sum_to (λ i. only (ltb 0 (c i)) (2 ^ i)) j

-- The weights below column j stand side by side in p, which begins as l does and is zero after them.
pub record Filled (c : ℕ → ℕ) (l : List ℕ) (j : ℕ) (p : List ℕ) : Type 0 where
  pub len : length p ≡ length l
  pub front : (q : ℕ) → q < weights_at → get_or p q 0 ≡ get_or l q 0
  pub new : (i : ℕ) → i < j → 0 < c i → get_or p (weights_at + count_to c i) 0 ≡ c i
  pub rest : (q : ℕ) → weights_at + count_to c j ≤ q → get_or p q 0 ≡ 0

-- The weight to j of a row once s is removed.
abbrev pub mixed : ℕ → ℕ → ℕ → List ℕ → List ℕ → ℕ → ℕ
mixed s d w old pivot j = choose (eqb j s) 0 (weight_of old j * d + w * weight_of pivot j)

-- The same, from the weights of the two rows by state.
abbrev pub blend : ℕ → ℕ → ℕ → List ℕ → List ℕ → ℕ → ℕ
blend s d w x y j = choose (eqb j s) 0 (get_or x j 0 * d + w * get_or y j 0)

-- Weights that fit, and are 0 outside a set.
pub record Columns (all : ℕ) (x : List ℕ) : Type 0 where
  pub fits : (j : ℕ) → get_or x j 0 ≤ M
  pub none : (j : ℕ) → bit all j ≡ 0 → get_or x j 0 ≡ 0

-- The numbers before place e but the first are the new row's; the others stay.
pub record Beside (d w e : ℕ) (pivot l p : List ℕ) : Type 0 where
  pub len : length p ≡ length l
  pub targets : targets_of p ≡ targets_of l
  pub new : (q : ℕ) → 0 < q → q < e → get_or p q 0 ≡ get_or l q 0 * d + w * get_or pivot q 0
  pub past : (q : ℕ) → e ≤ q → get_or p q 0 ≡ get_or l q 0

-- From place a on, each number before place e is the new row's of the next place, and the last is 0; the others stay.
pub record Closed (d w a e : ℕ) (pivot l p : List ℕ) : Type 0 where
  pub len : length p ≡ length l
  pub front : (q : ℕ) → q < a → get_or p q 0 ≡ get_or l q 0
  pub moved : (q : ℕ) → a ≤ q → suc q < e → get_or p q 0 ≡ get_or l (suc q) 0 * d + w * get_or pivot (suc q) 0
  pub last : (q : ℕ) → suc q ≡ e → get_or p q 0 ≡ 0
  pub past : (q : ℕ) → e ≤ q → get_or p q 0 ≡ get_or l q 0

-- The weights are zero; the numbers before them stay.
pub record Emptied (l p : List ℕ) : Type 0 where
  pub len : length p ≡ length l
  pub front : (q : ℕ) → q < weights_at → get_or p q 0 ≡ get_or l q 0
  pub past : (q : ℕ) → weights_at ≤ q → get_or p q 0 ≡ 0

-- p has become v: the packed row once s is removed, w being the weight to s.
pub record Merged (s d w : ℕ) (pivot p v : List ℕ) : Type 0 where
  pub packed : (n : ℕ) → length p ≡ width n → Below n p → Below n pivot → Packed n v
  pub row : (n : ℕ) → n ≤ most_states → w ≡ cell (unpacked n p) s → ((j : ℕ) → n ≤ j → j < width n → j ≡ s → ⊥)
      → unpacked n v ≡ combined s d (unpacked n pivot) (unpacked n p)

-- A packed row, and a copy of that of s, can be put together: they fit, and the part has room for their targets.
pub record Replaceable (s d : ℕ) (pivot p : List ℕ) : Type 0 where
  pub state : s < most_states
  pub target : bit (targets_of p) s ≡ 1
  pub divisor : d ≤ M
  pub held : end_of_part p ≤ length p
  pub small : length p ≤ width most_states
  pub weights : (j : ℕ) → bit (targets_of p) j ≡ 1 → 0 < get_or p (weights_at + place_of (targets_of p) j) 0
  pub rest : (q : ℕ) → end_of_part p ≤ q → get_or p q 0 ≡ 0
  pub room : Room (length p) p pivot
  pub own : Modest p
  pub other : Modest pivot

-- They have the same targets, and each weight of p is above 0 and stays so when it is multiplied by d.
pub record Alike (d : ℕ) (pivot p : List ℕ) : Type 0 where
  pub same : targets_of p ≡ targets_of pivot
  pub some : 0 < d

-- p has become v: the packed row once s is removed.
pub record Replaced (s d : ℕ) (pivot p v : List ℕ) : Type 0 where
  pub packed : (n : ℕ) → length p ≡ width n → Below n p → Below n pivot → Packed n v
  pub row : (n : ℕ) → n ≤ most_states → s < n → unpacked n v ≡ combined s d (unpacked n pivot) (unpacked n p)

-- A part whose stored numbers fit.
pub record Squeezable (p : List ℕ) : Type 0 where
  pub few : targets_of p < 2 ^ most_states
  pub room : end_of_part p ≤ length p
  pub rest : (q : ℕ) → end_of_part p ≤ q → get_or p q 0 ≡ 0
  pub fits : Modest p

-- p has become v: the same row, with no weight of 0 stored.
pub record Squeezed (p v : List ℕ) : Type 0 where
  pub packed : (n : ℕ) → length p ≡ width n → Below n p → Packed n v
  pub row : (n : ℕ) → n ≤ most_states → unpacked n v ≡ unpacked n p
