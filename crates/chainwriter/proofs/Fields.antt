-- The fields of each record, and which record stands where in a block.
use Prim.Native.Nat.{ℕ, ◌+◌, ◌*◌, ◌-◌, ◌/◌, ◌%◌, ◌^◌, ◌≤◌, ◌<◌}
use mathlib.Core.Path.{◌≡◌, ap, ◌∙◌}
use mathlib.Core.List.{List}
use native.Mathlib.Nat.{div-one, zero-div, div-eq_of_lt, pow-le-pow_right}
use native.Mathlib.Omega.{arith}
use lib.ListN.{get_or}
use borrow.Author.Tests.{eq-eqb, ne_eqb, lt-ltb, le-ltb, le-leb, lt-leb}
use Rattle.meaning.specs.Number.{bit}
use Rattle.meaning.specs.Chain.{edge_count, from, to, weight, edge_reward}
use Rattle.meaning.specs.Refusal.{Lent}
use Rattle.meaning.specs.Block.{Input, number_at, record_size, full_block, state_blocks}
use Rattle.theory.specs.Numbers.Sum.{sum_ext}
use Rattle.theory.specs.Numbers.Digits.{digits_low, digits_from}
use Rattle.octets.specs.Input.{input}
use Rattle.chainwriter.specs.Packed.{head_record, state_record, edge_record, record_of, slot_of, begin_of}
use Rattle.chainwriter.specs.Made.{Stands}

-- A field of a record that stands somewhere.
module _ (s : List ℕ) (place x : ℕ) (stands : Stands s place record_size x) where
  pub field : (at width : ℕ) → at + width ≤ record_size → number_at (input s 0) (place + at) width ≡ x / 256 ^ at % 256 ^ width
  field at width h =
      sum_ext _ _ width
      (λ i l. ap (λ z. z * 256 ^ i) (ap (λ z. get_or s z 0) (omega arith) ∙ stands (at + i) (omega arith)))
      ∙ digits_from 256 x at width

  pub first_field : (width : ℕ) → width ≤ record_size → number_at (input s 0) place width ≡ x % 256 ^ width
  first_field width h = sum_ext _ _ width (λ i l. ap (λ z. z * 256 ^ i) (stands i (omega arith))) ∙ digits_low 256 x width

-- The fields of each record are what was put there.
pub record StateFields (x d r g o : ℕ) : Type 0 where
  pub denominator : x % 256 ^ 4 ≡ d
  pub reward : x / 256 ^ 4 % 256 ^ 2 ≡ r
  pub flag : x / 256 ^ 6 % 256 ≡ g
  pub order : x / 256 ^ 7 % 256 ≡ o

pub state_fields : (d r g o : ℕ) → d < 4294967296 → r < 65536 → g < 2 → o < 256 → StateFields (state_record d r g o) d r g o
state_fields d r g o h k m q = record { denominator = omega arith; reward = omega arith; flag = omega arith; order = omega arith }

pub record EdgeFields (x s t w r : ℕ) : Type 0 where
  pub source : x / 256 ^ 0 % 256 ≡ s
  pub target : x / 256 ^ 1 % 256 ≡ t
  pub pays : x / 256 ^ 2 % 256 ^ 2 ≡ r
  pub weighs : x / 256 ^ 4 % 256 ^ 4 ≡ w

pub edge_fields : (s t w r : ℕ) → s < 256 → t < 256 → w < 4294967296 → r < 65536 → EdgeFields (edge_record s t w r) s t w r
edge_fields s t w r h k m q =
    record { source = omega (arith, div-one (edge_record s t w r)); target = omega arith; pays = omega arith; weighs = omega arith }

pub head_zeros_lem : (n s e k : ℕ) → n < 256 → s < 256 → e < 65536 → 4 ≤ k → head_record n s e / 256 ^ k % 256 ≡ 0
head_zeros_lem n s e k h l m q =
    let p = pow-le-pow_right {n = 256} (omega arith) {i = 4} {j = k} q in
    ap (λ z. z % 256) (div-eq_of_lt {n = head_record n s e} {m = 256 ^ k} (omega (arith, p)))

-- A record past the last is nothing.
pub slot_none : (l : Lent) (kind count begin i k : ℕ) → count ≤ i → slot_of l kind count begin i / 256 ^ k % 256 ≡ 0
unfolding slot_of
slot_none l kind count begin i k h = rw (le-ltb i count h, zero-div (256 ^ k))

-- What record i of a block is, by its kind.
module _ (l : Lent) (kind count begin i : ℕ) (h : i < count) where
  slot_some : slot_of l kind count begin i ≡ record_of l kind (begin + i)
  unfolding slot_of
  slot_some = rw (lt-ltb i count h)

  pub slot_head : kind ≡ 1 → slot_of l kind count begin i ≡ head_record l.chain.states l.chain.start (edge_count l.chain.edges)
  unfolding record_of
  slot_head e = slot_some ∙ rw (eq-eqb kind 1 e)

  pub slot_state : kind ≡ 2 → (k : ℕ) → begin + i ≡ k → slot_of l kind count begin i
      ≡ state_record (get_or l.chain.denominators k 0) (get_or l.rewards k 0) (bit l.chain.goals k) (get_or l.order k 0)
  unfolding record_of
  slot_state e k z = slot_some ∙ rw (ne_eqb kind 1 (λ q. omega arith), eq-eqb kind 2 e, z)

  pub slot_edge : kind ≡ 3 → (k : ℕ) → begin + i ≡ k
      → slot_of l kind count begin i ≡ edge_record (from l.chain.edges k) (to l.chain.edges k) (weight l.chain.edges k) (edge_reward l.chain.edges k)
  unfolding record_of
  slot_edge e k z = slot_some ∙ rw (ne_eqb kind 1 (λ q. omega arith), ne_eqb kind 2 (λ q. omega arith), z)

-- Which record is the first of a block.
pub begin_state : (f : Input) (b : ℕ) → 0 < b → b ≤ state_blocks f → begin_of f b ≡ full_block * (b - 1)
begin_state f b h k = rw (ne_eqb b 0 (λ z. omega arith), le-leb b (state_blocks f) k)

pub begin_edge : (f : Input) (b : ℕ) → state_blocks f < b → begin_of f b ≡ full_block * (b - 1 - state_blocks f)
begin_edge f b h = rw (ne_eqb b 0 (λ z. omega arith), lt-leb b (state_blocks f) h)
