-- A block that is right, said positively: what each of its bytes is.
use Rattle.std.specs.Prelude.{ℕ, ◌+◌, ◌*◌, ◌/◌, ◌%◌, ◌≤◌, ◌<◌, ◌≡◌, refl, ◌⊎◌}
use Rattle.std.proofs.Common.{⊎_elim, inl, inr, arith}
use Rattle.std.proofs.Math.Logic.Dec
use Rattle.std.proofs.Math.Decide.{ℕ_discrete}
use Rattle.meaning.specs.Chain.{most_states, most_edges}
use Rattle.meaning.specs.Block.{
  Input,
  byte,
  block_byte,
  number_at,
  kind_at,
  block_number_at,
  count_at,
  records_at,
  check_at,
  record_size,
  full_block,
  first_sum,
  second_sum,
  first_version,
  second_version,
  version_in,
  check_modulus,
  check_begin,
  checked_bytes,
  blocks_of,
  head_states,
  head_edges,
  state_blocks,
  demanded,
  flag_in,
}
use Rattle.meaning.specs.File.{
  CheckFault,
  BlockNumberFault,
  kind_of,
  KindFault,
  count_of,
  NonZero,
  HeadFault,
  FlagFault,
  ReservedFault,
  ContentFault,
  BlockRefused,
  BlockRight,
  Accepted,
}
use Rattle.theory.specs.Numbers.Sum.{same, below}
use Rattle.theory.specs.Numbers.Search.{either}
use Rattle.theory.specs.Files.Turn.{kind_state, at_state}

pub right : (f : Input) (b : ℕ) → (CheckFault f b → ⊥) → (BlockNumberFault f b → ⊥) → (KindFault f b → ⊥) → (ContentFault f b → ⊥) → BlockRight f b
right f b c p k n number (BlockRefused.check_refused x) = c x
right f b c p k n number (BlockRefused.block_number_refused _ x) = p x
right f b c p k n number (BlockRefused.kind_refused _ _ x) = k x
right f b c p k n number (BlockRefused.content_refused _ _ _ x) = n x

-- What cannot differ is equal.
pub stable : (x y : ℕ) → ((x ≡ y → ⊥) → ⊥) → x ≡ y
stable x y f = ⊎_elim (λ e. e) (λ d. absurd (f d)) (same x y)

-- Bytes that are not found other than 0.
pub zeros : (f : Input) {low high : ℕ} → (NonZero f low high → ⊥) → (j : ℕ) → low ≤ j → j < high → byte f j ≡ 0
zeros f n j l h = stable _ _ (λ d. n (j, (l, (h, d))))

pub nonzero : (f : Input) {low high : ℕ} → ((j : ℕ) → low ≤ j → j < high → byte f j ≡ 0) → NonZero f low high → ⊥
nonzero f z w = w.1.1.1 (z w.0 w.1.0 w.1.1.0)

-- Whether the check and the block number are wrong is decided.
pub checked : (f : Input) (b : ℕ) → Dec (CheckFault f b)
checked f b = either (Dec.not (ℕ_discrete _ _)) (Dec.not (ℕ_discrete _ _))

pub numbered : (f : Input) (b : ℕ) → Dec (BlockNumberFault f b)
numbered f b = Dec.not (ℕ_discrete _ _)

-- What each test of a block asks for.
pub record Laid (f : Input) (b : ℕ) : Type 0 where
  pub first : byte f (check_at b) ≡ first_sum (check_modulus (version_in f b)) (check_begin (version_in f b)) (block_byte f b) checked_bytes
  pub second : byte f (check_at b + 1) ≡ second_sum (check_modulus (version_in f b)) (check_begin (version_in f b)) (block_byte f b) checked_bytes
  pub place : number_at f (block_number_at b) 2 ≡ b
  pub kind : byte f (kind_at b) ≡ kind_of f b
  pub known : (version_in f b ≡ first_version) ⊎ (version_in f b ≡ second_version)
  pub versioned : version_in f b ≡ version_in f 0
  pub counts : number_at f (count_at b) 2 ≡ count_of f b
  pub rest : (j : ℕ) → records_at b + record_size * count_of f b ≤ j → j < check_at b → byte f j ≡ 0
  pub head : kind_of f b ≡ 1 → HeadFault f → ⊥
  pub flags : kind_of f b ≡ 2 → FlagFault f (records_at b) (count_of f b) → ⊥
  pub reserved : kind_of f b ≡ 3 → version_in f b ≡ first_version → ReservedFault f (records_at b) (count_of f b) → ⊥

module _ {f : Input} {b : ℕ} where
  pub laid_right : Laid f b → BlockRight f b
  laid_right r =
      right f b (⊎_elim (λ d. d r.first) (λ d. d r.second)) (λ d. d r.place)
      (⊎_elim (λ d. d r.kind) (⊎_elim (λ d. ⊎_elim d.0 d.1 r.known) (λ d. d r.versioned))) content
    where
      content : ContentFault f b → ⊥
      content (ContentFault.count_wrong d) = d r.counts
      content (ContentFault.rest_wrong w) = nonzero f r.rest w
      content (ContentFault.record_wrong k w) = r.head k w
      content (ContentFault.flag_wrong k w) = r.flags k w
      content (ContentFault.reserved_wrong k v w) = r.reserved k v w

  module _ (r : BlockRight f b) where
    pub unchecked : CheckFault f b → ⊥
    unchecked w = r 21 (BlockRefused.check_refused w)

    pub unplaced : BlockNumberFault f b → ⊥
    unplaced w = r 22 (BlockRefused.block_number_refused unchecked w)

    pub unkind : KindFault f b → ⊥
    unkind w = r 23 (BlockRefused.kind_refused unchecked unplaced w)

    pub content_right : ContentFault f b → ⊥
    content_right w = r 24 (BlockRefused.content_refused unchecked unplaced unkind w)

    pub right_laid : Laid f b
    right_laid =
        record {
          first = stable _ _ (λ d. unchecked (inl d));
          second = stable _ _ (λ d. unchecked (inr d));
          place = stable _ _ unplaced;
          kind = stable _ _ (λ d. unkind (inl d));
          known = one_of (same (version_in f b) first_version) (same (version_in f b) second_version);
          versioned = stable _ _ (λ d. unkind (inr (inr d)));
          counts = stable _ _ (λ d. content_right (ContentFault.count_wrong d));
          rest = zeros f (λ w. content_right (ContentFault.rest_wrong w));
          head = λ k w. content_right (ContentFault.record_wrong k w);
          flags = λ k w. content_right (ContentFault.flag_wrong k w);
          reserved = λ k v w. content_right (ContentFault.reserved_wrong k v w);
        }
      where
        one_of : (version_in f b ≡ first_version) ⊎ (version_in f b ≡ first_version → ⊥)
            → (version_in f b ≡ second_version) ⊎ (version_in f b ≡ second_version → ⊥)
            → (version_in f b ≡ first_version) ⊎ (version_in f b ≡ second_version)
        one_of (inl e) d = inl e
        one_of (inr h) (inl e) = inr e
        one_of (inr h) (inr k) = absurd (unkind (inr (inl (h, k))))

-- What the head's test tells.
pub record Bounded (f : Input) : Type 0 where
  pub some_states : 0 < head_states f
  pub few_states : head_states f ≤ most_states
  pub some_edges : 0 < head_edges f
  pub few_edges : head_edges f ≤ most_edges
  pub few_blocks : demanded f ≤ 1 + blocks_of most_states + blocks_of most_edges

pub bounded : (f : Input) → BlockRight f 0 → Bounded f
bounded f r =
    let some : head_states f ≡ 0 → ⊥ = λ z. content_right r (ContentFault.record_wrong refl (inl (inl z))) in
    let states : most_states < head_states f → ⊥ = λ h. content_right r (ContentFault.record_wrong refl (inl (inr h))) in
    let none : head_edges f ≡ 0 → ⊥ = λ z. content_right r (ContentFault.record_wrong refl (inr (inl (inl z)))) in
    let edges : most_edges < head_edges f → ⊥ = λ h. content_right r (ContentFault.record_wrong refl (inr (inl (inr h)))) in
    record { some_states = omega arith; few_states = omega arith; some_edges = omega arith; few_edges = omega arith; few_blocks = omega arith }

-- The flags of a file whose front is right are 0 or 1.
pub flag_front : (f : Input) → ((b : ℕ) → b ≤ state_blocks f → BlockRight f b) → (i : ℕ) → i < head_states f → flag_in f i ≤ 1
flag_front f front i h =
    let b = 1 + i / full_block in
    let k = kind_state f b (λ z. omega arith) (omega arith) in
    ⊎_elim
    (λ (w : 1 < flag_in f i).
    absurd (content_right (front b (omega arith)) (ContentFault.flag_wrong k (i % full_block, (omega (arith, (at_state f b k).1), w)))))
    (λ (l : flag_in f i ≤ 1). l)
    (below 1 (flag_in f i))

-- So are those of an accepted file.
pub flag_low : (f : Input) → Accepted f → (i : ℕ) → i < head_states f → flag_in f i ≤ 1
flag_low f a = flag_front f (λ b h. a.blocks b (omega arith))
