-- How a row lies in its own part of the work table.
-- A part is the number of its live targets, then Reward, Goal, Trap and Unknown, then the weights of its targets side by side, in rising order
-- of target, and zeros after them.
use Rattle.std.specs.Prelude.{ℕ, ◌+◌, ◌-◌, ◌^◌, ◌≤◌, ◌<◌, ◌≡◌, List, eqb, ltb, length, get_or}
use Rattle.std.specs.Int.Bits.{bit_or}
use Rattle.std.specs.Int.Count.{ones}
use Rattle.meaning.specs.Chain.{most_states, M}
use Rattle.meaning.specs.Number.{only, choose, bit, tab_from}
use Rattle.meaning.specs.Row.{Row, width, goal_column, trap_column, unknown_column}
use Rattle.chain.specs.Rising.{place_of}

-- The 64-bit number of a part's live targets.
abbrev pub targets_of : List ℕ → ℕ
targets_of p = get_or p 0 0

-- Where each number of a part stands.
abbrev pub reward_at : ℕ
reward_at = 1

abbrev pub goal_at : ℕ
goal_at = 2

abbrev pub trap_at : ℕ
trap_at = 3

abbrev pub unknown_at : ℕ
unknown_at = 4

abbrev pub weights_at : ℕ
weights_at = 5

-- Where the numbers of a part end.
abbrev pub end_of_part : List ℕ → ℕ
end_of_part p = weights_at + ones (targets_of p)

-- How many states the table of a part has: a part is as long as a row has columns.
abbrev pub states_of : List ℕ → ℕ
states_of p = length p - 4

-- The weight to state j.
unfoldable pub weight_of : List ℕ → ℕ → ℕ
weight_of p j = only (eqb (bit (targets_of p) j) 1) (get_or p (weights_at + place_of (targets_of p) j) 0)

-- The row that a part stands for: n + 4 columns.
unfoldable pub unpacked : ℕ → List ℕ → Row
unpacked n p =
    tab_from 0 (width n)
    (λ j. choose (ltb j n) (weight_of p j)
    (choose (eqb j (goal_column n)) (get_or p goal_at 0)
    (choose (eqb j (trap_column n)) (get_or p trap_at 0)
    (choose (eqb j (unknown_column n)) (get_or p unknown_at 0) (get_or p reward_at 0)))))

-- The targets of a part are among the n states.
abbrev pub Below : ℕ → List ℕ → Type 0
Below n p = (j : ℕ) → bit (targets_of p) j ≡ 1 → j < n

-- A part is packed: its targets are states, each has a weight above 0, and no other number is stored.
pub record Packed (n : ℕ) (p : List ℕ) : Type 0 where
  pub size : length p ≡ width n
  pub inside : Below n p
  pub some : (j : ℕ) → bit (targets_of p) j ≡ 1 → 0 < get_or p (weights_at + place_of (targets_of p) j) 0
  pub rest : (q : ℕ) → end_of_part p ≤ q → get_or p q 0 ≡ 0

-- Each number of a part but the first is at most M.
abbrev pub Modest : List ℕ → Type 0
Modest p = (q : ℕ) → 0 < q → get_or p q 0 ≤ M

-- The weights of a part, each at the number of its state.
abbrev pub Spread : List ℕ → List ℕ → Type 0
Spread p wide = (j : ℕ) → get_or wide j 0 ≡ weight_of p j

-- A part of m numbers has room for the targets of two rows together.
pub record Room (m : ℕ) (old pivot : List ℕ) : Type 0 where
  pub few : bit_or (targets_of old) (targets_of pivot) < 2 ^ most_states
  pub narrow : weights_at + ones (bit_or (targets_of old) (targets_of pivot)) ≤ m
