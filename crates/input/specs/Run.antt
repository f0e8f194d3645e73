-- Runs of digits in a word, and what is read of them.
use Rattle.std.specs.Prelude.{ℕ, ◌+◌, ◌-◌, ◌≤◌, ◌<◌, ◌≡◌, List, length, get_or}
use Rattle.meaning.specs.Text.{bytes_of, read_on, IsDigit}
use Rattle.meaning.specs.Limit.{most_said, Stands, Marked}
use Rattle.input.specs.declared.limit_word.Run.{Run}

-- The bytes from one place on and before another are digits, and the next one is none.
pub record Runs (word : List ℕ) (begin end : ℕ) : Type 0 where
  pub forward : begin ≤ end
  pub inside : end ≤ length word
  pub each : (i : ℕ) → begin ≤ i → i < end → IsDigit (get_or word i 0)
  pub stop : end < length word → IsDigit (get_or word end 0) → ⊥

-- A number that grows no further once it is above what a limit's digits say.
abbrev pub past : ℕ
past = most_said + 1

pub data Capped (x z : ℕ) : Type 0 where
  is : z < past → x ≡ z → Capped x z
  beyond : past ≤ z → x ≡ past → Capped x z

-- A run was read behind x, whatever number x stands for.
pub record ReadRun (word : List ℕ) (begin x : ℕ) (r : Run) : Type 0 where
  pub runs : Runs word begin r.end
  pub value : (z : ℕ) → Capped x z → Capped r.number (read_on word begin z (r.end - begin))

-- The run behind a point, where one stands after the first digits.
pub data Middle (word : List ℕ) (whole r : Run) : Type 0 where
  none : (Stands word whole.end (bytes_of ".") → ⊥) → r ≡ whole → Middle word whole r
  more : Stands word whole.end (bytes_of ".") → whole.end < length word → ReadRun word (whole.end + 1) whole.number r → Middle word whole r

-- What the word says from the mark on.
pub data TensOf (word : List ℕ) (mark tens : ℕ) : Type 0 where
  none : length word ≡ mark → tens ≡ 0 → TensOf word mark tens
  said : Marked word mark → Capped tens (read_on word (mark + 2) 0 (length word - (mark + 2))) → TensOf word mark tens
  wrong : (length word ≡ mark → ⊥) → (Marked word mark → ⊥) → tens ≡ past → TensOf word mark tens
