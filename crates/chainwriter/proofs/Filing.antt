-- The blocks that were written are a file of what is lent.
use Prim.Native.Nat.{ℕ, ◌+◌, ◌*◌, ◌-◌, ◌/◌, ◌%◌, ◌^◌, ◌≤◌, ◌<◌}
use mathlib.Core.Path.{◌≡◌, refl, sym, ap, ap₂, ◌∙◌}
use mathlib.Core.Logic.{⊎_elim, inr}
use mathlib.Core.List.{List}
use native.Mathlib.Nat.{div-one}
use native.Mathlib.Omega.{arith}
use lib.ListN.{length, get_or}
use Rattle.meaning.specs.Number.{sum_to, bit}
use Rattle.meaning.specs.Chain.{edge_size, edge_number, edge_count, from, to, weight, edge_reward}
use Rattle.meaning.specs.Refusal.{Lent}
use Rattle.meaning.specs.Block.{
  Input,
  whole_file,
  second_version,
  version_in,
  byte,
  number_at,
  block_size,
  block_at,
  records_at,
  record_size,
  full_block,
  blocks_of,
  head_states,
  head_start,
  head_edges,
  state_blocks,
  demanded,
  state_at,
  edge_at,
  denominator_in,
  reward_in,
  flag_in,
  order_in,
}
use Rattle.meaning.specs.File.{kind_of, count_of, HeadFault, FlagFault, edge_in, chain_in, orders_in, rewards_in}
use Rattle.meaning.specs.Write.{Bytes, FileOf}
use Rattle.theory.specs.Numbers.Sum.{below, sum_ext}
use Rattle.theory.specs.Numbers.Tab.{tab_of}
use Rattle.theory.specs.Numbers.Digits.{digits_from, bits_number}
use Rattle.theory.specs.Files.Turn.{kind_state, kind_edge, at_state, at_edge, count_most, kind_most}
use Rattle.theory.specs.Files.Right.{Laid, laid_right, nonzero}
use Rattle.chainwriter.specs.Packed.{Fitting, head_record, state_record, edge_record, front_of, begin_of}
use Rattle.chainwriter.specs.Made.{Stands, Block}
use Rattle.chainwriter.proofs.Fields.{
  field,
  first_field,
  StateFields,
  state_fields,
  EdgeFields,
  edge_fields,
  head_zeros_lem,
  slot_none,
  slot_head,
  slot_state,
  slot_edge,
  begin_state,
  begin_edge,
}

module _ (l : Lent) (file : List ℕ) (fits : Fitting l)
    (blocks : (b : ℕ) → b < 1 + blocks_of l.chain.states + blocks_of (edge_count l.chain.edges) → Block l file b) where
  abbrev f : Input
  f = whole_file file

  abbrev n : ℕ
  n = l.chain.states

  abbrev m : ℕ
  m = edge_count l.chain.edges

  -- The head's record.
  head_stands : Stands file (records_at 0) record_size (head_record n l.chain.start m)
  head_stands k h = (blocks 0 (omega arith)).slots 0 (omega arith) k h ∙ ap (λ x. x / 256 ^ k % 256) (slot_head l 1 1 0 0 (omega arith) refl)

  states_are : head_states f ≡ n
  states_are = head_stands 0 (omega arith) ∙ omega (arith, fits.states, fits.start, div-one (head_record n l.chain.start m))

  start_is : head_start f ≡ l.chain.start
  start_is = head_stands 1 (omega arith) ∙ omega (arith, fits.states, fits.start, fits.edges)

  edges_are : head_edges f ≡ m
  edges_are = field file (records_at 0) _ head_stands 2 2 (omega arith) ∙ omega (arith, fits.states, fits.start, fits.edges)

  blocks_are : demanded f ≡ 1 + blocks_of n + blocks_of m
  blocks_are = ap₂ (λ n m. 1 + blocks_of n + blocks_of m) states_are edges_are

  -- The fields of a state and of an edge, as they are lent.
  abbrev state_of : ℕ → ℕ
  state_of i = state_record (get_or l.chain.denominators i 0) (get_or l.rewards i 0) (bit l.chain.goals i) (get_or l.order i 0)

  state_at_lem : (i : ℕ) → StateFields (state_of i) (get_or l.chain.denominators i 0) (get_or l.rewards i 0) (bit l.chain.goals i) (get_or l.order i 0)
  state_at_lem i = state_fields _ _ _ _ (fits.denominators i) (fits.rewards i) (omega arith) (fits.order i)

  abbrev edge_of : ℕ → ℕ
  edge_of e = edge_record (from l.chain.edges e) (to l.chain.edges e) (weight l.chain.edges e) (edge_reward l.chain.edges e)

  edge_of_lem : (e : ℕ)
      → EdgeFields (edge_of e) (from l.chain.edges e) (to l.chain.edges e) (weight l.chain.edges e) (edge_reward l.chain.edges e)
  edge_of_lem e = edge_fields _ _ _ _ (fits.from e) (fits.to e) (fits.weight e) (fits.edge_rewards_lem e)

  -- Every block is of version 2.
  version_of : (b : ℕ) → b < demanded f → version_in f b ≡ second_version
  version_of b here =
      (blocks b (omega (arith, blocks_are))).front 1 (omega arith) ∙ omega (arith, kind_most f b, count_most f b)

  module _ (b : ℕ) (here : b < demanded f) where
    block : Block l file b
    block = blocks b (omega (arith, blocks_are))

    -- The front of a block, and its rest.
    abbrev x : ℕ
    x = front_of (kind_of f b) b (count_of f b)

    front_byte : (k : ℕ) → k < 6 → byte f (block_at b + k) ≡ x / 256 ^ k % 256
    front_byte = block.front

    front_number : (k : ℕ) → k < 5 → number_at f (block_at b + k) 2 ≡ x / 256 ^ k % 256 ^ 2
    front_number k h =
        sum_ext _ _ 2 (λ i q. ap (λ z. z * 256 ^ i) (ap (λ z. get_or file z 0) (omega arith) ∙ front_byte (k + i) (omega arith)))
        ∙ digits_from 256 x k 2

    rest : (j : ℕ) → records_at b + record_size * count_of f b ≤ j → j < block_at b + 510 → byte f j ≡ 0
    rest j h k =
        let r = (j - records_at b) / record_size in
        let t = (j - records_at b) % record_size in
        ap (byte f) (omega arith) ∙ block.slots r (omega arith) t (omega arith)
        ∙ slot_none l (kind_of f b) (count_of f b) (begin_of f b) r t (omega arith)

    flag_right : kind_of f b ≡ 2 → FlagFault f (records_at b) (count_of f b) → ⊥
    flag_right k w =
        let r = w.0 in
        let s = slot_state l (kind_of f b) (count_of f b) (begin_of f b) r w.1.0 k _ refl in
        let e = block.slots r (omega (arith, w.1.0, count_most f b)) 6 (omega arith) ∙ ap (λ x. x / 256 ^ 6 % 256) s in
        omega (arith, e, w.1.1, (state_at_lem (begin_of f b + r)).flag)

    head_right : HeadFault f → ⊥
    head_right =
        ⊎_elim
        (⊎_elim (λ h. omega (arith, states_are, fits.some_states)) (λ h. omega (arith, states_are, fits.states)))
        (⊎_elim
        (⊎_elim (λ h. omega (arith, edges_are, fits.some_edges)) (λ h. omega (arith, edges_are, fits.edges)))
        (nonzero f
        (λ j p q.
        ap (byte f) (omega arith) ∙ head_stands (j - 6) (omega arith)
        ∙ head_zeros_lem n l.chain.start m (j - 6) (omega (arith, fits.states)) fits.start (omega (arith, fits.edges)) (omega arith))))

    laid : Laid f b
    laid =
        record {
          first = block.first;
          second = block.second;
          place = front_number 2 (omega arith) ∙ omega (arith, kind_most f b, count_most f b, blocks_are, fits.states, fits.edges);
          kind = ap (byte f) (omega arith) ∙ front_byte 0 (omega arith) ∙ omega (arith, kind_most f b, count_most f b, div-one x);
          known = inr (version_of b here);
          versioned = version_of b here ∙ sym (version_of 0 (omega arith));
          counts = front_number 4 (omega arith) ∙ omega (arith, kind_most f b, count_most f b, blocks_are, fits.states, fits.edges);
          rest = rest;
          head = λ k. head_right;
          flags = flag_right;
          reserved = λ k v. absurd (omega (arith, v, version_of b here));
        }

  -- A state's record, and an edge's.
  state_stands : (i : ℕ) → i < n
      → Stands file (state_at i) record_size (state_of i)
  state_stands i h k q =
      let b = 1 + i / full_block in
      let t : b ≤ state_blocks f = omega (arith, states_are) in
      let kind = kind_state f b (λ z. omega arith) t in
      let begin = begin_state f b (omega arith) t in
      ap (byte f) (omega arith) ∙ (block b (omega (arith, states_are))).slots (i % full_block) (omega arith) k q
      ∙ ap (λ x. x / 256 ^ k % 256)
      (slot_state l (kind_of f b) (count_of f b) (begin_of f b) (i % full_block) (omega (arith, (at_state f b kind).1, states_are)) kind i
      (omega (arith, begin)))

  edge_stands : (e : ℕ) → e < m
      → Stands file (edge_at f e) record_size (edge_of e)
  edge_stands e h k q =
      let b = 1 + state_blocks f + e / full_block in
      let kind = kind_edge f b (λ z. omega arith) (omega arith) in
      let count = (at_edge f b (λ z. omega arith) (λ z. omega arith)).1 in
      let begin = begin_edge f b (omega arith) in
      ap (byte f) (omega arith) ∙ (block b (omega (arith, edges_are))).slots (e % full_block) (omega arith) k q
      ∙ ap (λ x. x / 256 ^ k % 256)
      (slot_edge l (kind_of f b) (count_of f b) (begin_of f b) (e % full_block) (omega (arith, count, edges_are)) kind e (omega (arith, begin)))

  -- What is read back.
  state_byte : (i k : ℕ) → i < n → k < record_size → byte f (state_at i + k) ≡ state_of i / 256 ^ k % 256
  state_byte i k h q = state_stands i h k q

  goals_are : sum_to (λ i. flag_in f i * 2 ^ i) (head_states f) ≡ l.chain.goals
  goals_are =
      ap (λ z. sum_to (λ i. flag_in f i * 2 ^ i) z) states_are
      ∙ sum_ext _ _ n (λ i h. ap (λ z. z * 2 ^ i) (state_byte i 6 h (omega arith) ∙ (state_at_lem i).flag))
      ∙ bits_number n l.chain.goals fits.goals

  denominators_are : (chain_in f).denominators ≡ l.chain.denominators
  denominators_are =
      sym (tab_of 0 (head_states f) (denominator_in f) l.chain.denominators (fits.denominators_length ∙ sym states_are)
      (λ i h. let k : i < n = omega (arith, states_are) in
      sym (first_field file (state_at i) _ (state_stands i k) 4 (omega arith) ∙ (state_at_lem i).denominator)))

  rewards_are : rewards_in f ≡ l.rewards
  rewards_are =
      sym (tab_of 0 (head_states f) (reward_in f) l.rewards (fits.rewards_length ∙ sym states_are)
      (λ i h. let k : i < n = omega (arith, states_are) in
      sym (field file (state_at i) _ (state_stands i k) 4 2 (omega arith) ∙ (state_at_lem i).reward)))

  order_is : orders_in f ≡ l.order
  order_is =
      sym (tab_of 0 (head_states f) (order_in f) l.order (fits.order_length ∙ sym states_are)
      (λ i h. let k : i < n = omega (arith, states_are) in sym (state_byte i 7 k (omega arith) ∙ (state_at_lem i).order)))

  edge_is : (e t : ℕ) → e < m → t < edge_size → get_or (edge_in f e) t 0 ≡ get_or l.chain.edges (edge_size * e + t) 0
  edge_is e t h k =
      ⊎_elim
      (λ (z : t < 1).
      let o : t ≡ 0 = omega arith in
      rw o (ap (byte f) (omega arith) ∙ edge_stands e h 0 (omega arith) ∙ (edge_of_lem e).source ∙ ap (λ z. get_or l.chain.edges z 0) (omega arith)))
      (λ (z : 1 ≤ t).
      ⊎_elim
      (λ (y : t < 2). let o : t ≡ 1 = omega arith in rw o (edge_stands e h 1 (omega arith) ∙ (edge_of_lem e).target))
      (λ (y : 2 ≤ t).
      ⊎_elim
      (λ (x : t < 3).
      let o : t ≡ 2 = omega arith in rw o (field file (edge_at f e) _ (edge_stands e h) 4 4 (omega arith) ∙ (edge_of_lem e).weighs))
      (λ (x : 3 ≤ t).
      let o : t ≡ 3 = omega arith in rw o (field file (edge_at f e) _ (edge_stands e h) 2 2 (omega arith) ∙ (edge_of_lem e).pays))
      (below t 3))
      (below t 2))
      (below t 1)

  edge_list : (chain_in f).edges ≡ l.chain.edges
  edge_list =
      let full = fits.edges_whole in
      sym (tab_of 0 (edge_size * head_edges f) (edge_number (edge_in f)) l.chain.edges (omega (arith, edges_are))
      (λ j h.
      let e = j / edge_size in
      let t = j % edge_size in
      let z : j ≡ edge_size * e + t = omega arith in
      ap (λ j. get_or l.chain.edges j 0) z
      ∙ sym (edge_is e t (omega (arith, edges_are)) (omega arith))))

  pub file_of : Bytes file → length file ≡ block_size * (1 + blocks_of n + blocks_of m) → FileOf l file
  file_of bytes size =
      record {
        bytes = bytes;
        version = version_of 0 (omega arith);
        accepted =
            record {
              whole = ⊎_elim (λ z. omega arith) (λ d. d (omega arith));
              total = λ d. d (omega (arith, size, blocks_are));
              blocks = λ b h. laid_right (laid b h);
            };
        chain = λ i.
            record {
              states = states_are i;
              start = start_is i;
              goals = goals_are i;
              denominators = denominators_are i;
              edges = edge_list i;
            };
        order = order_is;
        rewards = rewards_are;
      }
