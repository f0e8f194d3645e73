-- The blocks of a chain file: where each field of each record lies, and the check.
use Rattle.std.specs.Prelude.{ℕ, zero, suc, ◌+◌, ◌*◌, ◌-◌, ◌/◌, ◌%◌, ◌^◌, List, length, get_or, eqb}
use Rattle.meaning.specs.Number.{sum_to, choose}

-- An input: the bytes that are kept, and how many more came after them, which only count.
pub record Input : Type 0 where
  pub kept : List ℕ
  pub more : ℕ

-- A file as an input: all of its bytes are kept.
abbrev pub whole_file : List ℕ → Input
whole_file file = record { kept = file; more = 0 }

abbrev pub input_length : Input → ℕ
input_length f = length f.kept + f.more

abbrev pub byte : Input → ℕ → ℕ
byte f j = get_or f.kept j 0

-- The number in `width` bytes from byte j on, little-endian.
abbrev pub number_at : Input → ℕ → ℕ → ℕ
number_at f j width = sum_to (λ i. byte f (j + i) * 256 ^ i) width

-- Number i of a row of little-endian numbers of 4 bytes, counted from 0.
abbrev pub four_byte_number : List ℕ → ℕ → ℕ
four_byte_number bytes i = number_at (whole_file bytes) (4 * i) 4

-- A block: kind, version, block number, records in this block, up to 63 records of 8 bytes, the rest zero, the check.
abbrev pub block_size : ℕ
block_size = 512

abbrev pub block_at : ℕ → ℕ
block_at b = block_size * b

-- Byte j of block b.
abbrev pub block_byte : Input → ℕ → ℕ → ℕ
block_byte f b j = byte f (block_at b + j)

abbrev pub kind_at : ℕ → ℕ
kind_at b = block_at b

abbrev pub version_at : ℕ → ℕ
version_at b = block_at b + 1

abbrev pub block_number_at : ℕ → ℕ
block_number_at b = block_at b + 2

abbrev pub count_at : ℕ → ℕ
count_at b = block_at b + 4

abbrev pub records_at : ℕ → ℕ
records_at b = block_at b + 6

-- How many bytes of a block are checked: all but the check itself.
abbrev pub checked_bytes : ℕ
checked_bytes = 510

abbrev pub check_at : ℕ → ℕ
check_at b = block_at b + checked_bytes

abbrev pub record_size : ℕ
record_size = 8

-- The most records of a block.
abbrev pub full_block : ℕ
full_block = 63

-- Fletcher's two sums of f 0, .., f (n - 1), modulo m, both begun at s.
unfoldable pub first_sum : ℕ → ℕ → (ℕ → ℕ) → ℕ → ℕ
first_sum m s f zero = s
first_sum m s f (suc n) = (first_sum m s f n + f n) % m

unfoldable pub second_sum : ℕ → ℕ → (ℕ → ℕ) → ℕ → ℕ
second_sum m s f zero = s
second_sum m s f (suc n) = (second_sum m s f n + first_sum m s f (suc n)) % m

-- The two versions, and the version that block b carries.
abbrev pub first_version : ℕ
first_version = 1

abbrev pub second_version : ℕ
second_version = 2

abbrev pub version_in : Input → ℕ → ℕ
version_in f b = byte f (version_at b)

-- The modulus of the check of a block that carries this version, and what both sums begin at: where it is not 2, the old rule.
abbrev pub check_modulus : ℕ → ℕ
check_modulus version = choose (eqb version second_version) 251 255

abbrev pub check_begin : ℕ → ℕ
check_begin version = choose (eqb version second_version) 1 0

-- How many blocks hold that many records: every block but the last of its kind is full.
abbrev pub blocks_of : ℕ → ℕ
blocks_of records = (records + (full_block - 1)) / full_block

-- The head's one record: n (1 byte), start (1), edges (2), four zeros.
abbrev pub head_states : Input → ℕ
head_states f = byte f (records_at 0)

abbrev pub head_start : Input → ℕ
head_start f = byte f (records_at 0 + 1)

abbrev pub head_edges : Input → ℕ
head_edges f = number_at f (records_at 0 + 2) 2

-- Where the head's four zeros begin.
abbrev pub head_zeros : ℕ
head_zeros = 4

-- How many blocks the head demands: itself, the states' and the edges'.
abbrev pub state_blocks : Input → ℕ
state_blocks f = blocks_of (head_states f)

abbrev pub demanded : Input → ℕ
demanded f = 1 + state_blocks f + blocks_of (head_edges f)

-- Where record i of a kind begins whose first block is b.
abbrev pub record_at : ℕ → ℕ → ℕ
record_at b i = records_at (b + i / full_block) + record_size * (i % full_block)

-- A state's record: denominator (4), reward (2), goal flag (1), the order's entry at that position (1).
abbrev pub state_at : ℕ → ℕ
state_at i = record_at 1 i

abbrev pub denominator_in : Input → ℕ → ℕ
denominator_in f i = number_at f (state_at i) 4

abbrev pub reward_in : Input → ℕ → ℕ
reward_in f i = number_at f (state_at i + 4) 2

-- Which byte of a state's record is the goal flag, and which the order's entry.
abbrev pub flag_byte : ℕ
flag_byte = 6

abbrev pub order_byte : ℕ
order_byte = 7

abbrev pub flag_in : Input → ℕ → ℕ
flag_in f i = byte f (state_at i + flag_byte)

abbrev pub order_in : Input → ℕ → ℕ
order_in f i = byte f (state_at i + order_byte)

-- An edge's record: from (1), to (1), reward (2), weight (4). In version 1 two zeros stand where the reward does.
abbrev pub edge_at : Input → ℕ → ℕ
edge_at f e = record_at (1 + state_blocks f) e

abbrev pub from_in : Input → ℕ → ℕ
from_in f e = byte f (edge_at f e)

abbrev pub to_in : Input → ℕ → ℕ
to_in f e = byte f (edge_at f e + 1)

-- Where an edge's reward begins, and its weight after it.
abbrev pub edge_reward_byte : ℕ
edge_reward_byte = 2

abbrev pub weight_byte : ℕ
weight_byte = 4

abbrev pub weight_in : Input → ℕ → ℕ
weight_in f e = number_at f (edge_at f e + weight_byte) 4

abbrev pub edge_reward_in : Input → ℕ → ℕ
edge_reward_in f e = number_at f (edge_at f e + edge_reward_byte) 2
