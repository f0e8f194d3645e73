-- A table of words in a work table.
use Rattle.std.specs.Prelude.{◌≡◌, ℕ, ◌+◌, ◌*◌, ◌^◌, ◌<◌, ◌≤◌, List, length, slice_index}
use Rattle.meaning.specs.Row.{cell}
use Rattle.meaning.specs.Near.{digits}
use Rattle.meaning.specs.Step.{Table, row}
use Rattle.elimination.specs.Table.{part_at}
use Rattle.near.specs.Word.{word}
use Rattle.near.specs.Row.{value_at}

-- A list of words stands for m weights: each is that weight but for two powers of two, the same in all columns, and has at most so many digits.
pub record Stands (m : ℕ) (weight : ℕ → ℕ) (u : List ℕ) (most : ℕ) : Type 0 where
  pub wide : length u ≡ m
  pub down : ℕ
  pub up : ℕ
  pub alike : (j : ℕ) → j < m → value_at u j * 2 ^ down ≡ weight j * 2 ^ up
  pub proper : (j : ℕ) → j < m → slice_index u j ≡ word (value_at u j)
  pub few : (j : ℕ) → j < m → digits (value_at u j) ≤ most

-- How many digits a word has at most after p positions.
abbrev pub most_digits : ℕ → ℕ
most_digits p = 31 + p * 2150

-- The rows of the table in w stand for those of t after p positions.
pub record Worded (n p : ℕ) (t : Table) (w : List ℕ) : Type 0 where
  pub rows : (i : ℕ) → i < n → Stands (n + 4) (cell (row t i)) (part_at n w i) (most_digits p)
