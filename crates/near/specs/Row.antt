-- A row of words: what they stand for, its division by a power of two, and the row that takes its place when a state is removed.
use Rattle.std.specs.Prelude.{◌≡◌, ℕ, zero, suc, ◌+◌, ◌-◌, ◌*◌, ◌/◌, ◌^◌, ◌<◌, min, List, length, ◌==◌, slice_index, slice_set}
use Rattle.meaning.specs.Number.{choose, tab_from}
use Rattle.near.specs.Word.{word, value}

-- The weight in column j.
abbrev pub value_at : List ℕ → ℕ → ℕ
value_at ws j = value (slice_index ws j)

-- A word's exponent: how many digits it leaves out; for 0 one more than any word has.
abbrev pub exponent : ℕ → ℕ
exponent w = choose (w == 0) (2 ^ 33) (w / 2 ^ 31)

-- The least exponent of f 0, f 1, .., f (n - 1).
unfoldable pub least_exponent : (ℕ → ℕ) → ℕ → ℕ
least_exponent f zero = 2 ^ 33
least_exponent f (suc n) = min (least_exponent f n) (exponent (f n))

-- The word of a number that is divided by 2 ^ k.
abbrev pub less_by : ℕ → ℕ → ℕ
less_by k w = choose (w == 0) 0 (w - k * 2 ^ 31)

-- A row whose weights are divided by 2 ^ k.
unfoldable pub lowered_words : ℕ → List ℕ → List ℕ
lowered_words k ws = tab_from 0 (length ws) (λ j. less_by k (slice_index ws j))

-- A row divided such that one of its words leaves out nothing.
abbrev pub settled_words : List ℕ → List ℕ
settled_words ws = lowered_words (least_exponent (λ j. slice_index ws j) (length ws)) ws

-- The new weights of a row: d is the D of the state that is removed, w the weight to it, and p its row.
unfoldable pub blended_words : ℕ → ℕ → List ℕ → List ℕ → List ℕ
blended_words d w p r = tab_from 0 (length r) (λ j. word (value_at r j * value d + value w * value_at p j))

-- A row once state s is removed, whose row p has no weight to itself any more.
abbrev pub replaced_words : ℕ → ℕ → List ℕ → List ℕ → List ℕ
replaced_words s d p r = blended_words d (slice_index r s) p (slice_set r s 0)

-- A list of 68 words in their parts: first digits, and 68 places on how many are left out behind them.
pub record Parts (l : List ℕ) : Type 0 where
  pub room : length l ≡ 136
  pub first : (j : ℕ) → j < 68 → slice_index l j < 2 ^ 31
  pub behind : (j : ℕ) → j < 68 → slice_index l (j + 68) < 2 ^ 33

-- The words.
unfoldable pub joined : List ℕ → List ℕ
joined l = tab_from 0 68 (λ j. slice_index l (j + 68) * 2 ^ 31 + slice_index l j)
