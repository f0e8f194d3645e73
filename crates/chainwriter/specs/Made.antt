-- What the writing of a block leaves in the buffer.
use Rattle.std.specs.Prelude.{ℕ, ◌+◌, ◌*◌, ◌/◌, ◌%◌, ◌^◌, ◌≤◌, ◌<◌, ◌≡◌, List, length, get_or}
use Rattle.meaning.specs.Refusal.{Lent}
use Rattle.meaning.specs.Block.{byte, block_size, block_at, records_at, check_at, record_size, full_block, first_sum, second_sum}
use Rattle.meaning.specs.File.{kind_of, count_of}
use Rattle.theory.specs.Files.Agree.{sum_of}
use Rattle.octets.specs.Input.{input}
use Rattle.chainwriter.specs.Packed.{slot_of, front_of, begin_of}

-- All bytes before low and from high on are as they were.
pub record Outside (before : List ℕ) (low high : ℕ) (after : List ℕ) : Type 0 where
  pub size : length after ≡ length before
  pub under : (j : ℕ) → j < low → get_or after j 0 ≡ get_or before j 0
  pub over : (j : ℕ) → high ≤ j → get_or after j 0 ≡ get_or before j 0

-- x stands in so many bytes from the place on.
abbrev pub Stands : List ℕ → ℕ → ℕ → ℕ → Type 0
Stands bytes place width x = (k : ℕ) → k < width → get_or bytes (place + k) 0 ≡ x / 256 ^ k % 256

pub record Fronted (before : List ℕ) (b kind count : ℕ) (after : List ℕ) : Type 0 where
  pub outside : Outside before (block_at b) (records_at b) after
  pub front : Stands after (block_at b) (records_at 0) (front_of kind b count)

-- The first i records.
pub record Slots (l : Lent) (kind count begin : ℕ) (before : List ℕ) (b i : ℕ) (after : List ℕ) : Type 0 where
  pub outside : Outside before (records_at b) (records_at b + record_size * i) after
  pub slots : (r : ℕ) → r < i → Stands after (records_at b + record_size * r) record_size (slot_of l kind count begin r)

pub record Checked (before : List ℕ) (b : ℕ) (after : List ℕ) : Type 0 where
  pub outside : Outside before (check_at b) (block_at b + block_size) after
  pub first : get_or after (check_at b) 0 ≡ sum_of first_sum (input after 0) b
  pub second : get_or after (check_at b + 1) 0 ≡ sum_of second_sum (input after 0) b

-- Block b of what is lent, in a file whose own head says its kind and its count.
pub record Block (l : Lent) (bytes : List ℕ) (b : ℕ) : Type 0 where
  pub front : let f = input bytes 0 in Stands bytes (block_at b) (records_at 0) (front_of (kind_of f b) b (count_of f b))
  pub slots : (r : ℕ) → r < full_block → let f = input bytes 0 in
      Stands bytes (records_at b + record_size * r) record_size (slot_of l (kind_of f b) (count_of f b) (begin_of f b) r)
  pub first : byte (input bytes 0) (check_at b) ≡ sum_of first_sum (input bytes 0) b
  pub second : byte (input bytes 0) (check_at b + 1) ≡ sum_of second_sum (input bytes 0) b

pub record Made (l : Lent) (before : List ℕ) (b : ℕ) (after : List ℕ) : Type 0 where
  pub outside : Outside before (block_at b) (block_at b + block_size) after
  pub block : Block l after b

-- The blocks before b.
pub record Filed (l : Lent) (before : List ℕ) (b : ℕ) (after : List ℕ) : Type 0 where
  pub outside : Outside before 0 (block_at b) after
  pub blocks : (a : ℕ) → a < b → Block l after a
