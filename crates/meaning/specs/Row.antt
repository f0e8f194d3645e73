-- A row of whole numbers of any size: its columns, its lowest terms, and how it is rounded.
-- A row has n + 4 columns: the n states, then Goal, Trap, Unknown and Reward.
use Rattle.std.specs.Prelude.{ℕ, zero, suc, ◌+◌, ◌-◌, ◌/◌, ◌^◌, Bool, true, false, List, [], ◌∷◌, length, get_or, set, eqb, leb, ltb}
use Rattle.meaning.specs.Number.{sum_to, choose, tab_from, gcd}
use Rattle.meaning.specs.Chain.{M}

-- A row is the list of its numbers.
abbrev pub Row : Type 0
Row = List ℕ

-- The number in column j.
abbrev pub cell : Row → ℕ → ℕ
cell r j = get_or r j 0

-- How many columns a row has, and which of them are Goal, Trap, Unknown and Reward.
abbrev pub width : ℕ → ℕ
width n = n + 4

abbrev pub goal_column : ℕ → ℕ
goal_column n = n

abbrev pub trap_column : ℕ → ℕ
trap_column n = n + 1

abbrev pub unknown_column : ℕ → ℕ
unknown_column n = n + 2

abbrev pub reward_column : ℕ → ℕ
reward_column n = n + 3

-- The row total: all columns, Reward not counted.
abbrev pub total : ℕ → Row → ℕ
total n r = sum_to (cell r) (n + 3)

-- The Reward of a row.
abbrev pub reward : ℕ → Row → ℕ
reward n r = cell r (reward_column n)

-- The greatest common divisor of all numbers of a row, Reward included.
unfoldable pub gcd_of : Row → ℕ
gcd_of [] = 0
gcd_of (x ∷ r) = gcd x (gcd_of r)

-- The divisor that is taken out of a row: 1 for a row of zeros.
unfoldable pub divisor : Row → ℕ
divisor r = choose (eqb (gcd_of r) 0) 1 (gcd_of r)

-- Each number of a row divided by d, rounded down.
unfoldable pub over : ℕ → Row → Row
over d r = tab_from 0 (length r) (λ j. cell r j / d)

-- A row in lowest terms.
abbrev pub lowest : Row → Row
lowest r = over (divisor r) r

-- x / 2 ^ k rounded up.
abbrev pub up_to : ℕ → ℕ → ℕ
up_to x k = (x + 2 ^ k - 1) / 2 ^ k

-- The least of k, k + 1, .. for which x / 2 ^ k rounded up is at most M, looked for in at most the given number of steps.
unfoldable pub shift_from : ℕ → ℕ → ℕ → ℕ
shift_from zero k x = k
shift_from (suc steps) k x = let further = shift_from steps (suc k) x in choose (leb (up_to x k) M) k further

-- The least k with x / 2 ^ k rounded up at most M: x steps are enough, since x is below 2 ^ x.
unfoldable pub shift_of : ℕ → ℕ
shift_of x = shift_from x 0 x

-- A row with Unknown made such that the total is t.
abbrev pub topped : ℕ → ℕ → Row → Row
topped n t r = set r (unknown_column n) (t - sum_to (cell r) (n + 2))

-- A row divided by 2 ^ k: the total is rounded up, every column but Unknown down, and Unknown is the total minus the others.
unfoldable pub rounded_by : ℕ → ℕ → Row → Row
rounded_by k n r = topped n (up_to (total n r) k) (over (2 ^ k) r)

-- A rounded row: divided by the least 2 ^ k with which its total is at most M.
abbrev pub rounded : ℕ → Row → Row
rounded n r = rounded_by (shift_of (total n r)) n r

-- The two engines: exact, and with rows rounded where their total is above M.
abbrev pub exact : Bool
exact = false

abbrev pub rounding : Bool
rounding = true

-- In the bounds engine a row is rounded where its total is above M.
unfoldable pub bounded : Bool → ℕ → Row → Row
bounded b n r = choose b (choose (ltb M (total n r)) (rounded n r) r) r

-- What is kept of a new row: its lowest terms, in the bounds engine rounded where they do not fit.
unfoldable pub settled : Bool → ℕ → Row → Row
settled b n r = bounded b n (lowest r)
