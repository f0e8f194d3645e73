-- Two files of one version that are accepted and read as one chain with one order and the same rewards are equal, byte for byte.
use Rattle.std.specs.Prelude.{ℕ, ◌+◌, ◌*◌, ◌-◌, ◌/◌, ◌%◌, ◌^◌, ◌≤◌, ◌<◌, min, ◌≡◌, refl, List, length, get_or, eqb, leb}
use Rattle.std.proofs.Common.{sym, ap, ap₂, ◌∙◌, ⊎_elim, inr, arith, ext_get_or}
use Rattle.meaning.specs.Number.{sum_to, choose, tab_from}
use Rattle.meaning.specs.Chain.{Chain, edge_size, edge_number}
use Rattle.meaning.specs.Block.{Input, whole_file, byte, block_byte, number_at, block_size, block_at, block_number_at, version_in, count_at, records_at, record_size, full_block, checked_bytes, blocks_of, head_states, head_edges, head_zeros, state_blocks, demanded, record_at, state_at, edge_at, denominator_in, reward_in, flag_byte, flag_in, order_byte, order_in, edge_reward_byte, weight_byte}
use Rattle.meaning.specs.File.{kind_of, count_of, Accepted, edge_in, chain_in, orders_in, rewards_in}
use Rattle.meaning.specs.Write.{Bytes}
use Rattle.theory.specs.Numbers.Sum.{below}
use Rattle.theory.specs.Numbers.Tab.{tab_at, tab_length}
use Rattle.theory.specs.Numbers.Digits.{digits_one}
use Rattle.theory.specs.Files.Turn.{Turn, turn}
use Rattle.theory.specs.Files.Agree.{sums_agree}
use Rattle.theory.specs.Files.Right.{Laid, right_laid, flag_low, stable, zeros}

-- Two equal lists, each made by a rule, have one number at a place.
tabs_same : (n m : ℕ) (f g : ℕ → ℕ) → tab_from 0 n f ≡ tab_from 0 m g → (j : ℕ) → j < n → j < m → f j ≡ g j
tabs_same n m f g e j h k = sym (tab_at n f 0 j h) ∙ ap (λ l. get_or l j 0) e ∙ tab_at m g 0 j k

-- How long an accepted file is.
pub accepted_length : {file : List ℕ} → Accepted (whole_file file) → length file ≡ block_size * demanded (whole_file file)
accepted_length {file} a = let e = stable _ _ a.total in omega arith

-- Number t of edge e in a list of edges.
pub edge_at_lem : (edges : ℕ → List ℕ) (e t : ℕ) → t < edge_size → edge_number edges (edge_size * e + t) ≡ get_or (edges e) t 0
edge_at_lem edges e t h = ap₂ (λ x y. get_or (edges x) y 0) (omega arith) (omega arith)

module _ (a b : List ℕ) (bytes : Bytes a) (bytes' : Bytes b) (taken : Accepted (whole_file a)) (taken' : Accepted (whole_file b))
    (chains : chain_in (whole_file a) ≡ chain_in (whole_file b)) (orders : orders_in (whole_file a) ≡ orders_in (whole_file b))
    (rewards : rewards_in (whole_file a) ≡ rewards_in (whole_file b)) (versions : version_in (whole_file a) 0 ≡ version_in (whole_file b) 0)
  where
    abbrev f : Input
    f = whole_file a

    abbrev g : Input
    g = whole_file b

    states : head_states f ≡ head_states g
    states = ap (λ (c : Chain). c.states) chains

    edges : head_edges f ≡ head_edges g
    edges =
        let e : length (chain_in f).edges ≡ length (chain_in g).edges = ap (λ (c : Chain). length c.edges) chains in
        let x : length (chain_in f).edges ≡ edge_size * head_edges f = tab_length 0 (edge_size * head_edges f) (edge_number (edge_in f)) in
        let y : length (chain_in g).edges ≡ edge_size * head_edges g = tab_length 0 (edge_size * head_edges g) (edge_number (edge_in g)) in
        omega arith

    blocks : demanded f ≡ demanded g
    blocks = ap₂ (λ n m. 1 + blocks_of n + blocks_of m) states edges

    kinds : (k : ℕ) → kind_of f k ≡ kind_of g k
    kinds k = ap (λ n. choose (eqb k 0) 1 (choose (leb k (blocks_of n)) 2 3)) states

    counts : (k : ℕ) → count_of f k ≡ count_of g k
    counts k =
        ap₂ (λ n m.
        choose (eqb k 0) 1
        (choose (leb k (blocks_of n)) (min full_block (n - full_block * (k - 1))) (min full_block (m - full_block * (k - 1 - blocks_of n)))))
        states edges

    -- A number of so many bytes has one row of bytes.
    field : (at width k j : ℕ) → number_at f at width ≡ number_at g at width → k < width → j ≡ at + k → byte f j ≡ byte g j
    field at width k j e h z =
        ap (byte f) z
        ∙ digits_one 256 (λ i. byte f (at + i)) (λ i. byte g (at + i)) width (λ i _. bytes (at + i)) (λ i _. bytes' (at + i)) e k h
        ∙ ap (byte g) (sym z)

    moved : (j q : ℕ) → j ≡ q → byte f q ≡ byte g q → byte f j ≡ byte g j
    moved j q z e = ap (byte f) z ∙ e ∙ ap (byte g) (sym z)

    -- The head's record.
    head_bytes : Laid f 0 → Laid g 0 → (k : ℕ) → k < record_size → byte f (records_at 0 + k) ≡ byte g (records_at 0 + k)
    head_bytes l r k h =
        ⊎_elim (λ (x : k < 1). moved _ (records_at 0) (omega arith) states)
        (λ (x : 1 ≤ k).
        ⊎_elim (λ (y : k < 2). moved _ (records_at 0 + 1) (omega arith) (ap (λ (c : Chain). c.start) chains))
        (λ (y : 2 ≤ k).
        ⊎_elim (λ (z : k < head_zeros). field (records_at 0 + 2) 2 (k - 2) _ edges (omega arith) (omega arith))
        (λ (z : head_zeros ≤ k).
        zeros f (λ w. l.head refl (inr (inr w))) (records_at 0 + k) (omega arith) (omega arith)
        ∙ sym (zeros g (λ w. r.head refl (inr (inr w))) (records_at 0 + k) (omega arith) (omega arith)))
        (below k head_zeros))
        (below k 2))
        (below k 1)

    -- A state's record.
    state_bytes : (i p k : ℕ) → i < head_states f → state_at i ≡ p → k < record_size → byte f (p + k) ≡ byte g (p + k)
    state_bytes i p k h z l =
        ⊎_elim (λ (x : k < 4). field (state_at i) 4 k _ denominators x (omega arith))
        (λ (x : 4 ≤ k).
        ⊎_elim (λ (y : k < flag_byte). field (state_at i + 4) 2 (k - 4) _ reward (omega arith) (omega arith))
        (λ (y : flag_byte ≤ k).
        ⊎_elim (λ (w : k < order_byte). moved _ (state_at i + flag_byte) (omega arith) flag)
        (λ (w : order_byte ≤ k). moved _ (state_at i + order_byte) (omega arith) order)
        (below k order_byte))
        (below k flag_byte))
        (below k 4)
      where
        h' : i < head_states g
        h' = omega (arith, states)

        denominators : denominator_in f i ≡ denominator_in g i
        denominators = tabs_same _ _ (denominator_in f) (denominator_in g) (ap (λ (c : Chain). c.denominators) chains) i h h'

        reward : reward_in f i ≡ reward_in g i
        reward = tabs_same _ _ (reward_in f) (reward_in g) rewards i h h'

        order : order_in f i ≡ order_in g i
        order = tabs_same _ _ (order_in f) (order_in g) orders i h h'

        low : (i : ℕ) → i < head_states f → flag_in g i < 2
        low i h = let e = flag_low g taken' i (omega (arith, states)) in omega arith

        flag : flag_in f i ≡ flag_in g i
        flag =
            digits_one 2 (flag_in f) (flag_in g) (head_states f) (λ i h. let e = flag_low f taken i h in omega arith) low
            (ap (λ (c : Chain). c.goals) chains ∙ ap (λ n. sum_to (λ i. flag_in g i * 2 ^ i) n) (sym states)) i h

    -- An edge's record.
    edge_bytes : (e p k : ℕ) → e < head_edges f → edge_at f e ≡ p
        → k < record_size → byte f (p + k) ≡ byte g (p + k)
    edge_bytes e p k h z l =
        ⊎_elim (λ (x : k < 1). ap (byte f) (omega arith) ∙ number 0 (omega arith) ∙ ap (byte g) (omega (arith, places)))
        (λ (x : 1 ≤ k).
        ⊎_elim (λ (y : k < edge_reward_byte). ap (byte f) (omega arith) ∙ number 1 (omega arith) ∙ ap (byte g) (omega (arith, places)))
        (λ (y : edge_reward_byte ≤ k).
        ⊎_elim (λ (w : k < weight_byte).
        field (edge_at f e + edge_reward_byte) 2 (k - edge_reward_byte) _
        (number 3 (omega arith) ∙ ap (λ z. number_at g (z + edge_reward_byte) 2) (sym places))
        (omega arith) (omega arith))
        (λ (w : weight_byte ≤ k).
        field (edge_at f e + weight_byte) 4 (k - weight_byte) _
        (number 2 (omega arith) ∙ ap (λ z. number_at g (z + weight_byte) 4) (sym places))
        (omega arith) (omega arith))
        (below k weight_byte))
        (below k edge_reward_byte))
        (below k 1)
      where
        places : edge_at f e ≡ edge_at g e
        places = ap (λ n. record_at (1 + blocks_of n) e) states

        number : (t : ℕ) → t < edge_size → get_or (edge_in f e) t 0 ≡ get_or (edge_in g e) t 0
        number t m =
            sym (edge_at_lem (edge_in f) e t m)
            ∙ tabs_same _ _ (edge_number (edge_in f)) (edge_number (edge_in g)) (ap (λ (c : Chain). c.edges) chains) (edge_size * e + t)
            (omega arith) (omega (arith, edges))
            ∙ edge_at_lem (edge_in g) e t m

    module _ (k : ℕ) (here : k < demanded f) (l : Laid f k) (r : Laid g k) where
      record_bytes : (i t : ℕ) → i < full_block → t < record_size → byte f (records_at k + record_size * i + t) ≡ byte g (records_at k + record_size * i + t)
      record_bytes i t h m =
          ⊎_elim (λ (n : i < count_of f k). go n (turn f k))
          (λ (n : count_of f k ≤ i).
          l.rest (records_at k + record_size * i + t) (omega arith) (omega arith)
          ∙ sym (r.rest (records_at k + record_size * i + t) (omega (arith, counts k)) (omega arith)))
          (below i (count_of f k))
        where
          go : i < count_of f k → Turn f k → byte f (records_at k + record_size * i + t) ≡ byte g (records_at k + record_size * i + t)
          go n (Turn.head z o c) =
              moved _ (records_at 0 + t) (omega arith) (head_bytes (right_laid (taken.blocks 0 (omega arith))) (right_laid (taken'.blocks 0 (omega arith))) t m)
          go n (Turn.state p b o c) = state_bytes (full_block * (k - 1) + i) (records_at k + record_size * i) t (omega arith) (omega arith) m
          go n (Turn.edge p b o c) =
              edge_bytes (full_block * (k - 1 - state_blocks f) + i) (records_at k + record_size * i) t (omega arith) (omega arith) m

      content_bytes : (j : ℕ) → j < checked_bytes → block_byte f k j ≡ block_byte g k j
      content_bytes j h =
          ⊎_elim (λ (x : j < 1). ap (byte f) (omega arith) ∙ l.kind ∙ kinds k ∙ sym r.kind ∙ ap (byte g) (omega arith))
          (λ (x : 1 ≤ j).
          ⊎_elim (λ (y : j < 2). ap (byte f) (omega arith) ∙ l.versioned ∙ versions ∙ sym r.versioned ∙ ap (byte g) (omega arith))
          (λ (y : 2 ≤ j).
          ⊎_elim (λ (z : j < 4). field (block_number_at k) 2 (j - 2) _ (l.place ∙ sym r.place) (omega arith) (omega arith))
          (λ (z : 4 ≤ j).
          ⊎_elim (λ (w : j < 6). field (count_at k) 2 (j - 4) _ (l.counts ∙ counts k ∙ sym r.counts) (omega arith) (omega arith))
          (λ (w : 6 ≤ j).
          moved _ (records_at k + record_size * ((j - 6) / record_size) + (j - 6) % record_size) (omega arith)
          (record_bytes ((j - 6) / record_size) ((j - 6) % record_size) (omega arith) (omega arith)))
          (below j 6))
          (below j 4))
          (below j 2))
          (below j 1)

      block_bytes : (j : ℕ) → j < block_size → block_byte f k j ≡ block_byte g k j
      block_bytes j h =
          ⊎_elim (content_bytes j)
          (λ (x : checked_bytes ≤ j).
          ⊎_elim
          (λ (y : j < checked_bytes + 1).
          ap (byte f) (omega arith) ∙ l.first
          ∙ (sums_agree f g k content_bytes).0
          ∙ sym r.first
          ∙ ap (byte g) (omega arith))
          (λ (y : checked_bytes + 1 ≤ j).
          ap (byte f) (omega arith) ∙ l.second
          ∙ (sums_agree f g k content_bytes).1
          ∙ sym r.second
          ∙ ap (byte g) (omega arith))
          (below j (checked_bytes + 1)))
          (below j checked_bytes)

    pub alike : a ≡ b
    alike =
        let size = accepted_length taken in
        ext_get_or 0 a b (size ∙ ap (λ n. block_size * n) blocks ∙ sym (accepted_length taken'))
        (λ j h.
        moved j (block_at (j / block_size) + j % block_size) (omega arith)
        (block_bytes (j / block_size) (omega arith) (right_laid (taken.blocks _ (omega arith))) (right_laid (taken'.blocks _ (omega (arith, blocks))))
        (j % block_size) (omega arith)))
