-- Fletcher's sums of a block's bytes, and the columns that those of a whole block are summed by.
use Rattle.std.specs.Prelude.{ℕ, ◌+◌, ◌≤◌, ◌<◌, ◌≡◌, List, length, get_or}
use Rattle.meaning.specs.Block.{byte, first_sum, second_sum, checked_bytes}
use Rattle.octets.specs.Input.{input}

-- Both sums of all bytes that are checked, where a byte that is not kept counts as 0.
abbrev pub BothSums : ℕ → ℕ → List ℕ → ℕ → ℕ → Type 0
BothSums modulus begin block first second =
    let f = byte (input block 0) in
    (first ≡ first_sum modulus begin f checked_bytes) × (second ≡ second_sum modulus begin f checked_bytes)

abbrev pub rows : ℕ
rows = 5

abbrev pub columns : ℕ
columns = 102

-- A number for each column, none of them larger than so.
pub record Low (most : ℕ) (numbers : List ℕ) : Type 0 where
  pub size : length numbers ≡ columns
  pub low : (c : ℕ) → c < columns → get_or numbers c 0 ≤ most

-- One row of bytes more in the plain sums of the columns, and in the sums of those.
pub record RowAdded (row plain sums plain' sums' : List ℕ) : Type 0 where
  pub sizes : (length plain' ≡ columns) × (length sums' ≡ columns)
  pub plainly : (c : ℕ) → c < columns → get_or plain' c 0 ≡ get_or plain c 0 + get_or row c 0
  pub summed : (c : ℕ) → c < columns → get_or sums' c 0 ≡ get_or sums c 0 + get_or plain' c 0
