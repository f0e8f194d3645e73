-- The records of a chain file, each as one number of eight bytes, little-endian.
use Rattle.std.specs.Prelude.{ℕ, ◌+◌, ◌*◌, ◌-◌, ◌%◌, ◌^◌, ◌≤◌, ◌<◌, ◌≡◌, length, get_or, eqb, leb, ltb}
use Rattle.meaning.specs.Number.{choose, bit}
use Rattle.meaning.specs.Chain.{most_states, most_edges, edge_size, edge_count, from, to, weight, edge_reward}
use Rattle.meaning.specs.Refusal.{Lent}
use Rattle.meaning.specs.Block.{
  Input,
  full_block,
  state_blocks,
  kind_at,
  version_at,
  block_number_at,
  count_at,
  flag_byte,
  order_byte,
  edge_reward_byte,
  weight_byte,
  second_version,
}

-- What is lent makes a file: the tables fit one another, and each number fits into its bytes.
pub record Fitting (l : Lent) : Type 0 where
  pub some_states : 0 < l.chain.states
  pub states : l.chain.states ≤ most_states
  pub start : l.chain.start < 256
  pub goals : l.chain.goals < 2 ^ l.chain.states
  pub some_edges : 0 < edge_count l.chain.edges
  pub edges : edge_count l.chain.edges ≤ most_edges
  pub edges_whole : length l.chain.edges % edge_size ≡ 0
  pub denominators_length : length l.chain.denominators ≡ l.chain.states
  pub order_length : length l.order ≡ l.chain.states
  pub rewards_length : length l.rewards ≡ l.chain.states
  pub denominators : (i : ℕ) → get_or l.chain.denominators i 0 < 4294967296
  pub order : (i : ℕ) → get_or l.order i 0 < 256
  pub rewards : (i : ℕ) → get_or l.rewards i 0 < 65536
  pub from : (e : ℕ) → from l.chain.edges e < 256
  pub to : (e : ℕ) → to l.chain.edges e < 256
  pub weight : (e : ℕ) → weight l.chain.edges e < 4294967296
  pub edge_rewards_lem : (e : ℕ) → edge_reward l.chain.edges e < 65536

abbrev pub head_record : ℕ → ℕ → ℕ → ℕ
head_record states start edges = states * 256 ^ 0 + start * 256 ^ 1 + edges * 256 ^ 2

abbrev pub state_record : ℕ → ℕ → ℕ → ℕ → ℕ
state_record denominator reward flag order = denominator * 256 ^ 0 + reward * 256 ^ 4 + flag * 256 ^ flag_byte + order * 256 ^ order_byte

abbrev pub edge_record : ℕ → ℕ → ℕ → ℕ → ℕ
edge_record source target weight reward =
    source * 256 ^ 0 + target * 256 ^ 1 + reward * 256 ^ edge_reward_byte + weight * 256 ^ weight_byte

-- Record k of a kind.
unfoldable pub record_of : Lent → ℕ → ℕ → ℕ
record_of l kind k =
    let c = l.chain in
    choose (eqb kind 1) (head_record c.states c.start (edge_count c.edges))
    (choose (eqb kind 2) (state_record (get_or c.denominators k 0) (get_or l.rewards k 0) (bit c.goals k) (get_or l.order k 0))
    (edge_record (from c.edges k) (to c.edges k) (weight c.edges k) (edge_reward c.edges k)))

-- Record i of a block that holds so many records, the first of them record `begin` of its kind.
unfoldable pub slot_of : Lent → ℕ → ℕ → ℕ → ℕ → ℕ
slot_of l kind count begin i = choose (ltb i count) (record_of l kind (begin + i)) 0

-- What stands before the records: where, block 0 shows.
abbrev pub front_of : ℕ → ℕ → ℕ → ℕ
front_of kind b count = kind * 256 ^ kind_at 0 + second_version * 256 ^ version_at 0 + b * 256 ^ block_number_at 0 + count * 256 ^ count_at 0

-- Which record of its kind is the first of block b.
abbrev pub begin_of : Input → ℕ → ℕ
begin_of f b = choose (eqb b 0) 0 (choose (leb b (state_blocks f)) (full_block * (b - 1)) (full_block * (b - 1 - state_blocks f)))

-- The check's two sums.
abbrev pub check_of : ℕ → ℕ → ℕ
check_of first second = first + second * 256 ^ 1
