-- What the engines ask of the rows that they work on.
use Rattle.std.specs.Prelude.{ℕ, ◌^◌, ◌≤◌, ◌<◌, ◌≡◌, Bool, Option, MatchOption, List, length}
use Rattle.meaning.specs.Chain.{M}
use Rattle.meaning.specs.Number.{sum_to}
use Rattle.meaning.specs.Row.{Row, cell, width, total, reward, over, exact, rounding}
use Rattle.meaning.specs.Stop.{Large}
use Rattle.elimination.specs.Packed.{end_of_part, unpacked, Below, Packed, Modest, Spread}
use Rattle.elimination.specs.Filled.{count_to}
use Rattle.elimination.specs.declared.row.Lowered.{Lowered}

-- Each of the first m numbers of the row is at most M.
abbrev pub Small : ℕ → Row → Type 0
Small m r = (j : ℕ) → j < m → cell r j ≤ M

-- A packed part whose row is not settled yet: its numbers are within it, and its total can be summed in 64 bits.
pub record Summable (n : ℕ) (p : List ℕ) : Type 0 where
  pub size : length p ≡ width n
  pub inside : Below n p
  pub held : end_of_part p ≤ length p
  pub bound : total n (unpacked n p) < 2 ^ 63

-- A kept row fits, and the bounds engine keeps no Reward.
pub record Fit (b : Bool) (n : ℕ) (r : Row) : Type 0 where
  pub weights : total n r ≤ M
  pub earned : reward n r ≤ M
  pub unpaid : b ≡ rounding → reward n r ≡ 0

-- A state s of n can be removed: pivot is a copy of its packed row, y the weights of that by state, and d its D.
pub record Removable (b : Bool) (n s d : ℕ) (pivot y : List ℕ) : Type 0 where
  pub state : s < n
  pub divisor : d ≤ M
  pub inside : Below n pivot
  pub modest : Modest pivot
  pub spread : Spread pivot y
  pub fit : Fit b n (unpacked n pivot)

-- Of a settled row that fits the answer is the divisor that was taken out of it; else it does not fit, which no row of the bounds engine does.
pub record Tested (b : Bool) (n : ℕ) (r : Row) (taken : ℕ) (answer : Option ℕ) : Type 0 where
  pub is : MatchOption answer ((b ≡ exact) × Large n r) (λ d. Fit b n r × (d ≡ taken))

-- Weights, divided by 2 ^ k, have become v, and the answer is their sum and how many are above 0.
pub record Shifted (k : ℕ) (l v : List ℕ) (answer : Lowered) : Type 0 where
  pub each : v ≡ over (2 ^ k) l
  pub sum : answer.sum ≡ sum_to (cell v) (length l)
  pub some : answer.some ≡ count_to (cell v) (length l)

-- A packed part has become v, which stands for r, and the answer says whether that fits, and which divisor was taken out.
pub record Became (b : Bool) (n : ℕ) (r : Row) (taken : ℕ) (v : List ℕ) (answer : Option ℕ) : Type 0 where
  pub same : unpacked n v ≡ r
  pub packed : Packed n v
  pub tested : Tested b n r taken answer
