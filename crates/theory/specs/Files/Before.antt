-- The reader's rules as they stood when version 1 was the only one; a file with no version byte 2 is refused or accepted by them still, with the
-- same tables, in which each edge has the reward 0.
use Rattle.std.specs.Prelude.{ℕ, ◌+◌, ◌*◌, ◌/◌, ◌%◌, ◌<◌, ◌≡◌, refl, ◌⊎◌, List, get_or}
use Rattle.std.proofs.Common.{sym, ap, ◌∙◌, inl, inr, ⊎_elim, arith, ne_eqb}
use Rattle.meaning.specs.Number.{tab_from, filled}
use Rattle.meaning.specs.Chain.{edge_size, edge, plain_edge, edge_number}
use Rattle.meaning.specs.Block.{
  Input,
  byte,
  block_byte,
  kind_at,
  version_at,
  check_at,
  checked_bytes,
  first_sum,
  second_sum,
  second_version,
  version_in,
  demanded,
  records_at,
  full_block,
  head_edges,
  state_blocks,
  first_version,
  edge_at,
  edge_reward_byte,
  from_in,
  to_in,
  weight_in,
  edge_reward_in,
}
use Rattle.meaning.specs.File.{
  LengthFault,
  TotalFault,
  CheckFault,
  BlockNumberFault,
  kind_of,
  KindFault,
  count_of,
  ReservedFault,
  ContentFault,
  BlockRefused,
  BlockRight,
  FileRefused,
  Accepted,
  Tables,
  Short,
  denominators_in,
  orders_in,
  rewards_in,
  edge_in,
  edges_in,
  filled_in,
  Reading,
  no_reading,
  reading,
  ReadOutcome,
}
use Rattle.theory.specs.Numbers.Tab.{tab_ext}
use Rattle.theory.specs.Files.Turn.{kind_edge, at_edge}
use Rattle.theory.specs.Files.Agree.{number_zero}
use Rattle.theory.specs.Files.Right.{stable, zeros, right_laid}

-- The rules of then: 21 modulo 255 from 0, 23 for any version but 1, and two zeros in every edge's record, which said no reward. All other
-- tests are those of now.
abbrev pub OldCheckFault : Input → ℕ → Type 0
OldCheckFault f b =
    (byte f (check_at b) ≡ first_sum 255 0 (block_byte f b) checked_bytes → ⊥)
    ⊎ (byte f (check_at b + 1) ≡ second_sum 255 0 (block_byte f b) checked_bytes → ⊥)

abbrev pub OldKindFault : Input → ℕ → Type 0
OldKindFault f b = (byte f (kind_at b) ≡ kind_of f b → ⊥) ⊎ (byte f (version_at b) ≡ 1 → ⊥)

abbrev pub OldContentFault : Input → ℕ → Type 0
OldContentFault f b = ContentFault f b ⊎ ((kind_of f b ≡ 3) × ReservedFault f (records_at b) (count_of f b))

pub data OldBlockRefused (f : Input) (b : ℕ) : ℕ → Type 0 where
  check_refused : OldCheckFault f b → OldBlockRefused f b 21
  block_number_refused : (OldCheckFault f b → ⊥) → BlockNumberFault f b → OldBlockRefused f b 22
  kind_refused : (OldCheckFault f b → ⊥) → (BlockNumberFault f b → ⊥) → OldKindFault f b → OldBlockRefused f b 23
  content_refused : (OldCheckFault f b → ⊥) → (BlockNumberFault f b → ⊥) → (OldKindFault f b → ⊥) → OldContentFault f b → OldBlockRefused f b 24

abbrev pub OldBlockRight : Input → ℕ → Type 0
OldBlockRight f b = (number : ℕ) → OldBlockRefused f b number → ⊥

pub data OldFileRefused (f : Input) : ℕ → ℕ → Type 0 where
  length_wrong : LengthFault f → OldFileRefused f 20 0
  head_wrong : (number : ℕ) → (LengthFault f → ⊥) → OldBlockRefused f 0 number → OldFileRefused f number 0
  total_wrong : (LengthFault f → ⊥) → OldBlockRight f 0 → TotalFault f → OldFileRefused f 24 0
  block_wrong : (number b : ℕ) → (LengthFault f → ⊥) → (TotalFault f → ⊥) → 0 < b → b < demanded f
      → ((a : ℕ) → a < b → OldBlockRight f a) → OldBlockRefused f b number → OldFileRefused f number b

pub record OldAccepted (f : Input) : Type 0 where
  pub whole : LengthFault f → ⊥
  pub total : TotalFault f → ⊥
  pub blocks : (b : ℕ) → b < demanded f → OldBlockRight f b

-- The tables of then: from, to and weight of each edge, with the reward 0.
abbrev pub old_edges_in : Input → List ℕ
old_edges_in f = tab_from 0 (edge_size * head_edges f) (edge_number (λ e. plain_edge (from_in f e) (to_in f e) (weight_in f e)))

abbrev pub old_filled_in : Input → Tables → Tables
old_filled_in f t =
    record {
      denominators = filled (denominators_in f) t.denominators;
      edges = filled (old_edges_in f) t.edges;
      order = filled (orders_in f) t.order;
      rewards = filled (rewards_in f) t.rewards;
    }

pub data OldReadOutcome (f : Input) (before : Tables) (a : Reading) (after : Tables) : Type 0 where
  short : Short before → a ≡ no_reading 2 0 → after ≡ before → OldReadOutcome f before a after
  refused : (Short before → ⊥) → (number place : ℕ) → OldFileRefused f number place → a ≡ no_reading number place → after ≡ before
      → OldReadOutcome f before a after
  accepted : (Short before → ⊥) → OldAccepted f → a ≡ reading f → after ≡ old_filled_in f before → OldReadOutcome f before a after

-- One block that does not carry version 2. Where it carries version 1, the head does too.
module _ (f : Input) (b : ℕ) (other : version_in f b ≡ second_version → ⊥) (one : version_in f b ≡ 1 → version_in f b ≡ version_in f 0) where
  check_old : CheckFault f b → OldCheckFault f b
  check_old w = rw (ne_eqb (version_in f b) second_version other) at w

  check_new : OldCheckFault f b → CheckFault f b
  check_new w = rw (ne_eqb (version_in f b) second_version other) w

  kind_old : KindFault f b → OldKindFault f b
  kind_old = ⊎_elim inl (⊎_elim (λ w. inr w.0) (λ d. inr (λ e. d (one e))))

  kind_new : OldKindFault f b → KindFault f b
  kind_new = ⊎_elim inl (λ d. inr (inl (d, other)))

  block_old : {n : ℕ} → BlockRefused f b n → OldBlockRefused f b n
  block_old (BlockRefused.check_refused w) = OldBlockRefused.check_refused (check_old w)
  block_old (BlockRefused.block_number_refused c w) = OldBlockRefused.block_number_refused (λ x. c (check_new x)) w
  block_old (BlockRefused.kind_refused c p w) = OldBlockRefused.kind_refused (λ x. c (check_new x)) p (kind_old w)
  block_old (BlockRefused.content_refused c p k w) = OldBlockRefused.content_refused (λ x. c (check_new x)) p (λ x. k (kind_new x)) (inl w)

  block_new : {n : ℕ} → OldBlockRefused f b n → BlockRefused f b n
  block_new (OldBlockRefused.check_refused w) = BlockRefused.check_refused (check_new w)
  block_new (OldBlockRefused.block_number_refused c w) = BlockRefused.block_number_refused (λ x. c (check_old x)) w
  block_new (OldBlockRefused.kind_refused c p w) = BlockRefused.kind_refused (λ x. c (check_old x)) p (kind_new w)
  block_new (OldBlockRefused.content_refused c p k w) = BlockRefused.content_refused (λ x. c (check_old x)) p (λ x. k (kind_old x))
      (⊎_elim (λ w. w) (λ w. ContentFault.reserved_wrong w.0 (stable _ _ (λ d. k (inr d))) w.1) w)

-- A file none of whose blocks carries version 2.
module _ (f : Input) (none : (b : ℕ) → b < demanded f → version_in f b ≡ second_version → ⊥) where
  bare : version_in f 0 ≡ second_version → ⊥
  bare = none 0 (omega arith)

  head_old : {n : ℕ} → BlockRefused f 0 n → OldBlockRefused f 0 n
  head_old = block_old f 0 bare (λ e. refl)

  head_new : {n : ℕ} → OldBlockRefused f 0 n → BlockRefused f 0 n
  head_new = block_new f 0 bare (λ e. refl)

  -- With a right head, a block of version 1 is of the head's version.
  first : BlockRight f 0 → (b : ℕ) → version_in f b ≡ 1 → version_in f b ≡ version_in f 0
  first r b e = ⊎_elim (λ z. e ∙ sym z) (λ z. absurd (bare z)) (right_laid r).known

  first_old : OldBlockRight f 0 → (b : ℕ) → version_in f b ≡ 1 → version_in f b ≡ version_in f 0
  first_old r = first (λ n w. r n (head_old w))

  pub refused_before : {n p : ℕ} → FileRefused f n p → OldFileRefused f n p
  refused_before (FileRefused.length_wrong w) = OldFileRefused.length_wrong w
  refused_before (FileRefused.head_wrong n l w) = OldFileRefused.head_wrong n l (head_old w)
  refused_before (FileRefused.total_wrong l h w) = OldFileRefused.total_wrong l (λ n w. h n (head_new w)) w
  refused_before (FileRefused.block_wrong n b l t z m a w) =
      let one = first (a 0 z) in
      OldFileRefused.block_wrong n b l t z m (λ c h k x. a c h k (block_new f c (none c (omega arith)) (one c) x)) (block_old f b (none b m) (one b) w)

  pub refused_now : {n p : ℕ} → OldFileRefused f n p → FileRefused f n p
  refused_now (OldFileRefused.length_wrong w) = FileRefused.length_wrong w
  refused_now (OldFileRefused.head_wrong n l w) = FileRefused.head_wrong n l (head_new w)
  refused_now (OldFileRefused.total_wrong l h w) = FileRefused.total_wrong l (λ n w. h n (head_old w)) w
  refused_now (OldFileRefused.block_wrong n b l t z m a w) =
      let one = first_old (a 0 z) in
      FileRefused.block_wrong n b l t z m (λ c h k x. a c h k (block_old f c (none c (omega arith)) (one c) x)) (block_new f b (none b m) (one b) w)

  pub accepted_before : Accepted f → OldAccepted f
  accepted_before a =
      record { whole = a.whole; total = a.total; blocks = λ b h k x. a.blocks b h k (block_new f b (none b h) (first (a.blocks 0 (omega arith)) b) x) }

  pub accepted_now : OldAccepted f → Accepted f
  accepted_now a =
      record { whole = a.whole; total = a.total; blocks = λ b h k x. a.blocks b h k (block_old f b (none b h) (first_old (a.blocks 0 (omega arith)) b) x) }

  -- An accepted file gives each edge the reward 0.
  edge_unpaid : Accepted f → (e : ℕ) → e < head_edges f → edge_reward_in f e ≡ 0
  edge_unpaid a e h =
      let b = 1 + state_blocks f + e / full_block in
      let inside : b < demanded f = omega arith in
      let laid = right_laid (a.blocks b inside) in
      let k = kind_edge f b (λ z. omega arith) (omega arith) in
      let n = at_edge f b (λ z. omega arith) (λ z. omega arith) in
      let version : version_in f b ≡ first_version = ⊎_elim (λ e. e) (λ e. absurd (none b inside e)) laid.known in
      number_zero f (edge_at f e + edge_reward_byte) 2
      (λ j l m. zeros f (λ w. laid.reserved k version (e % full_block, (omega (arith, n.1), w))) j (omega arith) (omega arith))

  same_tables : Accepted f → (t : Tables) → filled_in f t ≡ old_filled_in f t
  same_tables a t =
      ap (λ edges.
      record {
        denominators = filled (denominators_in f) t.denominators;
        edges = filled edges t.edges;
        order = filled (orders_in f) t.order;
        rewards = filled (rewards_in f) t.rewards;
      })
      edges
    where
      edges : edges_in f ≡ old_edges_in f
      edges =
          tab_ext (edge_size * head_edges f) (edge_number (edge_in f)) _ (λ j h.
          let e = j / edge_size in
          ap (λ r. get_or (edge (from_in f e) (to_in f e) (weight_in f e) r) (j % edge_size) 0) (edge_unpaid a e (omega arith)))

  -- What the reader may answer, and what it leaves in the tables, is what it was.
  module _ {before : Tables} {a : Reading} {after : Tables} where
    pub as_before : ReadOutcome f before a after → OldReadOutcome f before a after
    as_before (ReadOutcome.short s e t) = OldReadOutcome.short s e t
    as_before (ReadOutcome.refused s n p w e t) = OldReadOutcome.refused s n p (refused_before w) e t
    as_before (ReadOutcome.accepted s w e t) = OldReadOutcome.accepted s (accepted_before w) e (t ∙ same_tables w before)

    pub as_now : OldReadOutcome f before a after → ReadOutcome f before a after
    as_now (OldReadOutcome.short s e t) = ReadOutcome.short s e t
    as_now (OldReadOutcome.refused s n p w e t) = ReadOutcome.refused s n p (refused_now w) e t
    as_now (OldReadOutcome.accepted s w e t) = ReadOutcome.accepted s (accepted_now w) e (t ∙ sym (same_tables (accepted_now w) before))
