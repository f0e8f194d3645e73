-- Where a block's count and rest are right, what is wrong in its content is wrong in the records of its kind.
use Prim.Native.Nat.{ℕ, ◌+◌, ◌*◌, ◌≤◌}
use mathlib.Core.Path.{◌≡◌, sym, subst, ◌∙◌}
use mathlib.Core.Bool.{Bool}
use mathlib.Core.Logic.{⊎_elim}
use mathlib.Core.List.{List}
use native.Mathlib.Omega.{arith}
use Rattle.meaning.specs.Chain.{most_states, most_edges}
use Rattle.meaning.specs.Block.{Input, number_at, count_at, records_at, check_at, record_size, first_version, version_in, head_states, head_edges, head_zeros}
use Rattle.meaning.specs.File.{NonZero, HeadFault, FlagFault, ReservedFault, ContentFault, kind_of, count_of}
use Rattle.meaning.specs.Number.{decides}
use Rattle.octets.specs.Input.{input}
use Rattle.blocks.proofs.Law.{carry}

-- Of the head's faults none but a reserved byte is left where its two counts are in range.
pub head_rest : (f : Input) → (head_states f ≡ 0 → ⊥) → head_states f ≤ most_states → (head_edges f ≡ 0 → ⊥) → head_edges f ≤ most_edges
    → HeadFault f → NonZero f (records_at 0 + head_zeros) (records_at 0 + record_size)
head_rest f a b c d w =
    ⊎_elim (λ s. absurd (⊎_elim a (λ h. omega arith) s)) (⊎_elim (λ s. absurd (⊎_elim c (λ h. omega arith) s)) (λ n. n)) w

-- A block whose count and rest are right.
pub record Framed (kept : List ℕ) (b count : ℕ) : Type 0 where
  pub counted : count ≡ count_of (input kept 0) b
  pub counts : number_at (input kept 0) (count_at b) 2 ≡ count
  pub clear : NonZero (input kept 0) (records_at b + record_size * count) (check_at b) → ⊥

-- What is wrong in its content is in the records.
module _ {kept : List ℕ} {b count : ℕ} (fr : Framed kept b count) (more : ℕ) where
  abbrev f : Input
  f = input kept more

  counts_right : (number_at f (count_at b) 2 ≡ count_of f b → ⊥) → ⊥
  counts_right w = w (fr.counts ∙ fr.counted)

  rest_right : NonZero f (records_at b + record_size * count_of f b) (check_at b) → ⊥
  rest_right w = fr.clear (subst (λ k. NonZero f (records_at b + record_size * k) (check_at b)) (sym fr.counted) w)

  content_head : kind_of f b ≡ 1 → ContentFault f b → HeadFault f
  content_head k (ContentFault.count_wrong w) = absurd (counts_right w)
  content_head k (ContentFault.rest_wrong w) = absurd (rest_right w)
  content_head k (ContentFault.record_wrong k' w) = w
  content_head k (ContentFault.flag_wrong k' w) = absurd (omega arith)
  content_head k (ContentFault.reserved_wrong k' v w) = absurd (omega arith)

  content_flag : kind_of f b ≡ 2 → ContentFault f b → FlagFault f (records_at b) count
  content_flag k (ContentFault.count_wrong w) = absurd (counts_right w)
  content_flag k (ContentFault.rest_wrong w) = absurd (rest_right w)
  content_flag k (ContentFault.record_wrong k' w) = absurd (omega arith)
  content_flag k (ContentFault.flag_wrong k' w) = subst (FlagFault f (records_at b)) (sym fr.counted) w
  content_flag k (ContentFault.reserved_wrong k' v w) = absurd (omega arith)

  content_reserved : kind_of f b ≡ 3 → ContentFault f b → (version_in f b ≡ first_version) × ReservedFault f (records_at b) count
  content_reserved k (ContentFault.count_wrong w) = absurd (counts_right w)
  content_reserved k (ContentFault.rest_wrong w) = absurd (rest_right w)
  content_reserved k (ContentFault.record_wrong k' w) = absurd (omega arith)
  content_reserved k (ContentFault.flag_wrong k' w) = absurd (omega arith)
  content_reserved k (ContentFault.reserved_wrong k' v w) = (v, subst (ReservedFault f (records_at b)) (sym fr.counted) w)

  -- What decides whether the head's record is wrong decides whether its content is.
  pub head_decides : kind_of f b ≡ 1 → (r : Bool) → decides (HeadFault f) r → decides (ContentFault f b) r
  head_decides k r d = carry _ _ r d (ContentFault.record_wrong k) (content_head k)

  -- What decides whether a flag of a block of states is wrong decides whether its content is.
  pub flag_decides : kind_of f b ≡ 2 → (r : Bool) → decides (FlagFault f (records_at b) count) r → decides (ContentFault f b) r
  flag_decides k r d =
      carry _ _ r d (λ w. ContentFault.flag_wrong k (subst (FlagFault f (records_at b)) fr.counted w)) (content_flag k)

  -- What decides whether a reserved byte of a block of edges is wrong decides whether its content is.
  pub reserved_decides : kind_of f b ≡ 3 → (r : Bool) → decides ((version_in f b ≡ first_version) × ReservedFault f (records_at b) count) r
      → decides (ContentFault f b) r
  reserved_decides k r d =
      carry _ _ r d (λ w. ContentFault.reserved_wrong k w.0 (subst (ReservedFault f (records_at b)) fr.counted w.1)) (content_reserved k)
