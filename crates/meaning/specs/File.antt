-- Chain files: the numbers of refusal 20 to 24 with their block, in the order in which they are tested, and the tables of a file that is accepted.
use Rattle.std.specs.Prelude.{ℕ, ◌+◌, ◌*◌, ◌-◌, ◌%◌, ◌^◌, ◌≤◌, ◌<◌, min, ◌≡◌, ◌⊎◌, List, [], length, eqb, leb}
use Rattle.meaning.specs.Number.{sum_to, choose, tab_from, filled}
use Rattle.meaning.specs.Chain.{most_states, most_edges, Chain, edge_size, edge, edge_number}
use Rattle.meaning.specs.Refusal.{Lent, chain_alone, own_work}
use Rattle.meaning.specs.Block.{
  Input,
  input_length,
  byte,
  block_byte,
  number_at,
  block_size,
  kind_at,
  block_number_at,
  count_at,
  records_at,
  check_at,
  record_size,
  full_block,
  first_sum,
  second_sum,
  first_version,
  second_version,
  version_in,
  check_modulus,
  check_begin,
  checked_bytes,
  head_states,
  head_start,
  head_edges,
  head_zeros,
  blocks_of,
  state_blocks,
  demanded,
  denominator_in,
  reward_in,
  flag_byte,
  flag_in,
  order_in,
  from_in,
  to_in,
  edge_reward_byte,
  weight_byte,
  weight_in,
  edge_reward_in,
}

-- 20: the file is empty, or no multiple of 512.
abbrev pub LengthFault : Input → Type 0
LengthFault f = (input_length f ≡ 0) ⊎ (input_length f % block_size ≡ 0 → ⊥)

-- 21: the check is not Fletcher's two sums over bytes 0 to 509, the first sum at 510, the second at 511. The block's own version byte says by which rule.
abbrev pub CheckFault : Input → ℕ → Type 0
CheckFault f b =
    let modulus = check_modulus (version_in f b) in
    let begin = check_begin (version_in f b) in
    (byte f (check_at b) ≡ first_sum modulus begin (block_byte f b) checked_bytes → ⊥)
    ⊎ (byte f (check_at b + 1) ≡ second_sum modulus begin (block_byte f b) checked_bytes → ⊥)

-- 22: the block number is not the block's place, from 0.
abbrev pub BlockNumberFault : Input → ℕ → Type 0
BlockNumberFault f b = number_at f (block_number_at b) 2 ≡ b → ⊥

-- The kind whose turn it is at block b: 1, one block; then 2, as many as the states need; then 3.
abbrev pub kind_of : Input → ℕ → ℕ
kind_of f b = choose (eqb b 0) 1 (choose (leb b (state_blocks f)) 2 3)

-- The version is neither 1 nor 2, or differs from block 0's: all blocks of one file carry one version.
abbrev pub VersionFault : Input → ℕ → Type 0
VersionFault f b =
    ((version_in f b ≡ first_version → ⊥) × (version_in f b ≡ second_version → ⊥))
    ⊎ (version_in f b ≡ version_in f 0 → ⊥)

-- 23: kind or version wrong, or kind out of turn.
abbrev pub KindFault : Input → ℕ → Type 0
KindFault f b = (byte f (kind_at b) ≡ kind_of f b → ⊥) ⊎ VersionFault f b

-- How many records block b holds: every block but the last of its kind is full.
abbrev pub count_of : Input → ℕ → ℕ
count_of f b =
    choose (eqb b 0) 1
    (choose (leb b (state_blocks f)) (min full_block (head_states f - full_block * (b - 1)))
    (min full_block (head_edges f - full_block * (b - 1 - state_blocks f))))

-- A byte from low on and before high is not 0.
abbrev pub NonZero : Input → ℕ → ℕ → Type 0
NonZero f low high = (j : ℕ) × ((low ≤ j) × ((j < high) × (byte f j ≡ 0 → ⊥)))

-- The head's n is not 1 to 64, its edges are not 1 to 4,096, or one of its four zeros is not 0.
abbrev pub HeadFault : Input → Type 0
HeadFault f =
    ((head_states f ≡ 0) ⊎ (most_states < head_states f))
    ⊎ ((head_edges f ≡ 0) ⊎ (most_edges < head_edges f))
    ⊎ NonZero f (records_at 0 + head_zeros) (records_at 0 + record_size)

-- The most blocks of a file.
abbrev pub most_blocks : ℕ
most_blocks = 1 + blocks_of most_states + blocks_of most_edges

-- Of so many states' records from byte `at` on, one has a flag that is not 0 or 1.
abbrev pub FlagFault : Input → ℕ → ℕ → Type 0
FlagFault f at count = (r : ℕ) × ((r < count) × (1 < byte f (at + record_size * r + flag_byte)))

-- Of so many edges' records of version 1 from byte `at` on, one has a reserved byte that is not 0.
abbrev pub ReservedFault : Input → ℕ → ℕ → Type 0
ReservedFault f at count = (r : ℕ) × ((r < count) × NonZero f (at + record_size * r + edge_reward_byte) (at + record_size * r + weight_byte))

-- 24: count, flag or reserved byte wrong; in the head also n or edges. The bytes after the last record are reserved too.
pub data ContentFault (f : Input) (b : ℕ) : Type 0 where
  count_wrong : (number_at f (count_at b) 2 ≡ count_of f b → ⊥) → ContentFault f b
  rest_wrong : NonZero f (records_at b + record_size * count_of f b) (check_at b) → ContentFault f b
  record_wrong : kind_of f b ≡ 1 → HeadFault f → ContentFault f b
  flag_wrong : kind_of f b ≡ 2 → FlagFault f (records_at b) (count_of f b) → ContentFault f b
  reserved_wrong : kind_of f b ≡ 3 → version_in f b ≡ first_version → ReservedFault f (records_at b) (count_of f b) → ContentFault f b

-- Block b is refused: 21, 22, 23 and 24 are tested in turn.
pub data BlockRefused (f : Input) (b : ℕ) : ℕ → Type 0 where
  check_refused : CheckFault f b → BlockRefused f b 21
  block_number_refused : (CheckFault f b → ⊥) → BlockNumberFault f b → BlockRefused f b 22
  kind_refused : (CheckFault f b → ⊥) → (BlockNumberFault f b → ⊥) → KindFault f b → BlockRefused f b 23
  content_refused : (CheckFault f b → ⊥) → (BlockNumberFault f b → ⊥) → (KindFault f b → ⊥) → ContentFault f b → BlockRefused f b 24

abbrev pub BlockRight : Input → ℕ → Type 0
BlockRight f b = (number : ℕ) → BlockRefused f b number → ⊥

-- 24 at 0: the block total is not what the head demands.
abbrev pub TotalFault : Input → Type 0
TotalFault f = input_length f ≡ block_size * demanded f → ⊥

-- A file is refused: 20 is tested first, then the head block, then the block total, then each further block in turn.
pub data FileRefused (f : Input) : ℕ → ℕ → Type 0 where
  length_wrong : LengthFault f → FileRefused f 20 0
  head_wrong : (number : ℕ) → (LengthFault f → ⊥) → BlockRefused f 0 number → FileRefused f number 0
  total_wrong : (LengthFault f → ⊥) → BlockRight f 0 → TotalFault f → FileRefused f 24 0
  block_wrong : (number b : ℕ) → (LengthFault f → ⊥) → (TotalFault f → ⊥) → 0 < b → b < demanded f
      → ((a : ℕ) → a < b → BlockRight f a) → BlockRefused f b number → FileRefused f number b

-- A file that meets none of 20 to 24.
pub record Accepted (f : Input) : Type 0 where
  pub whole : LengthFault f → ⊥
  pub total : TotalFault f → ⊥
  pub blocks : (b : ℕ) → b < demanded f → BlockRight f b

-- The tables of an accepted file.
abbrev pub goals_in : Input → ℕ
goals_in f = sum_to (λ i. flag_in f i * 2 ^ i) (head_states f)

abbrev pub denominators_in : Input → List ℕ
denominators_in f = tab_from 0 (head_states f) (denominator_in f)

abbrev pub rewards_in : Input → List ℕ
rewards_in f = tab_from 0 (head_states f) (reward_in f)

abbrev pub orders_in : Input → List ℕ
orders_in f = tab_from 0 (head_states f) (order_in f)

abbrev pub edge_in : Input → ℕ → List ℕ
edge_in f e = edge (from_in f e) (to_in f e) (weight_in f e) (edge_reward_in f e)

abbrev pub edges_in : Input → List ℕ
edges_in f = tab_from 0 (edge_size * head_edges f) (edge_number (edge_in f))

abbrev pub chain_in : Input → Chain
chain_in f =
    record {
      states = head_states f;
      start = head_start f;
      goals = goals_in f;
      denominators = denominators_in f;
      edges = edges_in f;
    }

-- What an entry is lent of an accepted file.
abbrev pub lent_in : Input → List ℕ → Lent
lent_in f rewards = own_work (chain_in f) (orders_in f) rewards

-- The entries for the chance and for the bounds are lent no rewards.
abbrev pub plain_in : Input → Lent
plain_in f = lent_in f []

abbrev pub paid_in : Input → Lent
paid_in f = lent_in f (rewards_in f)

-- Where a chain alone is asked for, an entry is lent the chain of an accepted file and no table.
abbrev pub bare_in : Input → Lent
bare_in f = chain_alone (chain_in f)

-- The tables that the reader fills, lent at the largest chain's size or more.
pub record Tables : Type 0 where
  pub denominators : List ℕ
  pub edges : List ℕ
  pub order : List ℕ
  pub rewards : List ℕ

-- 2: one of these lengths, or of these tables, is under the largest chain's size.
abbrev pub ShortOf : ℕ → ℕ → ℕ → ℕ → Type 0
ShortOf denominators edges order rewards =
    (denominators < most_states) ⊎ (edges < edge_size * most_edges) ⊎ (order < most_states) ⊎ (rewards < most_states)

abbrev pub Short : Tables → Type 0
Short t = ShortOf (length t.denominators) (length t.edges) (length t.order) (length t.rewards)

-- Entries past the chain's own stay.
abbrev pub filled_in : Input → Tables → Tables
filled_in f t =
    record {
      denominators = filled (denominators_in f) t.denominators;
      edges = filled (edges_in f) t.edges;
      order = filled (orders_in f) t.order;
      rewards = filled (rewards_in f) t.rewards;
    }

-- What the reader answers: a number and its block, or the head's numbers and the goals.
pub record Reading : Type 0 where
  pub number : ℕ
  pub place : ℕ
  pub states : ℕ
  pub start : ℕ
  pub goals : ℕ
  pub edges : ℕ

abbrev pub no_reading : ℕ → ℕ → Reading
no_reading number place =
    record { number = number; place = place; states = 0; start = 0; goals = 0; edges = 0 }

abbrev pub reading : Input → Reading
reading f =
    record {
      number = 0;
      place = 0;
      states = head_states f;
      start = head_start f;
      goals = goals_in f;
      edges = head_edges f;
    }

-- The reader gives only 2, before 20, and 20 to 24; a refusal leaves the tables.
pub data ReadOutcome (f : Input) (before : Tables) (a : Reading) (after : Tables) : Type 0 where
  short : Short before → a ≡ no_reading 2 0 → after ≡ before → ReadOutcome f before a after
  refused : (Short before → ⊥) → (number place : ℕ) → FileRefused f number place → a ≡ no_reading number place → after ≡ before
      → ReadOutcome f before a after
  accepted : (Short before → ⊥) → Accepted f → a ≡ reading f → after ≡ filled_in f before → ReadOutcome f before a after
