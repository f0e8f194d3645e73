-- Whether a block is refused is decided: so a file's front is refused, or it is opened with a verdict on each edge block.
use Rattle.std.specs.Prelude.{ℕ, ◌+◌, ◌*◌, ◌≤◌, ◌<◌, ◌≡◌, ◌⊎◌, Bool, ltb}
use Rattle.std.proofs.Math.Path.{refl}
use Rattle.std.proofs.Common.{sym, ◌∙◌, inl, inr, arith}
use Rattle.std.proofs.Math.Logic.Dec
use Rattle.std.proofs.Math.Bool.{true, false}
use Rattle.std.proofs.Math.Decide.{ℕ_discrete, dec_le, dec_lt}
use borrow.Author.Tests.{lt-ltb, le-ltb}
use Rattle.meaning.specs.Number.{choose}
use Rattle.meaning.specs.Chain.{most_states, most_edges}
use Rattle.meaning.specs.Block.{Input, input_length, block_size, byte, number_at, kind_at, count_at, records_at, check_at, record_size, head_states, head_edges, head_zeros, flag_byte, edge_reward_byte, weight_byte, state_blocks, demanded, first_version, second_version, version_in}
use Rattle.meaning.specs.File.{
  LengthFault,
  TotalFault,
  kind_of,
  KindFault,
  count_of,
  NonZero,
  HeadFault,
  FlagFault,
  ReservedFault,
  ContentFault,
  BlockRefused,
  BlockRight,
}
use Rattle.meaning.specs.Salvage.{FrontRefused, Opened}
use Rattle.theory.specs.Numbers.Search.{turned, either, LeastPlace, at, nowhere, ranged, anywhere}
use Rattle.theory.specs.Files.FileOne.{block_numbers}
use Rattle.theory.specs.Files.Head.{lengthy}
use Rattle.theory.specs.Files.Right.{right, checked, numbered}

module _ (f : Input) where
  nonzero : (low high : ℕ) → Dec (NonZero f low high)
  nonzero low high =
      turned (λ w. (w.0, (w.1.1.0, (w.1.0, w.1.1.1)))) (λ w. (w.0, (w.1.1.0, (w.1.0, w.1.1.1))))
      (anywhere (λ j. (low ≤ j) × (byte f j ≡ 0 → ⊥)) high (λ j. Dec.and (dec_le low j) (Dec.not (ℕ_discrete (byte f j) 0))))

  kinds : (b : ℕ) → Dec (KindFault f b)
  kinds b =
      either (Dec.not (ℕ_discrete (byte f (kind_at b)) (kind_of f b)))
      (either (Dec.and (Dec.not (ℕ_discrete (version_in f b) first_version)) (Dec.not (ℕ_discrete (version_in f b) second_version)))
      (Dec.not (ℕ_discrete (version_in f b) (version_in f 0))))

  heads : Dec (HeadFault f)
  heads =
      either (either (ℕ_discrete (head_states f) 0) (dec_lt most_states (head_states f)))
      (either (either (ℕ_discrete (head_edges f) 0) (dec_lt most_edges (head_edges f)))
      (nonzero (records_at 0 + head_zeros) (records_at 0 + record_size)))

  -- The faults of a block's content, one after the other.
  abbrev Contents : ℕ → Type 0
  Contents b =
      (number_at f (count_at b) 2 ≡ count_of f b → ⊥)
      ⊎ NonZero f (records_at b + record_size * count_of f b) (check_at b)
      ⊎ ((kind_of f b ≡ 1) × HeadFault f)
      ⊎ ((kind_of f b ≡ 2) × FlagFault f (records_at b) (count_of f b))
      ⊎ ((kind_of f b ≡ 3) × ((version_in f b ≡ first_version) × ReservedFault f (records_at b) (count_of f b)))

  contents_in : (b : ℕ) → Contents b → ContentFault f b
  contents_in b (inl h) = ContentFault.count_wrong h
  contents_in b (inr (inl h)) = ContentFault.rest_wrong h
  contents_in b (inr (inr (inl h))) = ContentFault.record_wrong h.0 h.1
  contents_in b (inr (inr (inr (inl h)))) = ContentFault.flag_wrong h.0 h.1
  contents_in b (inr (inr (inr (inr h)))) = ContentFault.reserved_wrong h.0 h.1.0 h.1.1

  contents_out : (b : ℕ) → ContentFault f b → Contents b
  contents_out b (ContentFault.count_wrong h) = inl h
  contents_out b (ContentFault.rest_wrong h) = inr (inl h)
  contents_out b (ContentFault.record_wrong k h) = inr (inr (inl (k, h)))
  contents_out b (ContentFault.flag_wrong k h) = inr (inr (inr (inl (k, h))))
  contents_out b (ContentFault.reserved_wrong k v h) = inr (inr (inr (inr (k, (v, h)))))

  contents : (b : ℕ) → Dec (ContentFault f b)
  contents b =
      turned (contents_in b) (contents_out b)
      (either (Dec.not (ℕ_discrete (number_at f (count_at b) 2) (count_of f b)))
      (either (nonzero (records_at b + record_size * count_of f b) (check_at b))
      (either (Dec.and (ℕ_discrete (kind_of f b) 1) heads)
      (either
      (Dec.and (ℕ_discrete (kind_of f b) 2)
      (anywhere _ (count_of f b) (λ r. dec_lt 1 (byte f (records_at b + record_size * r + flag_byte)))))
      (Dec.and (ℕ_discrete (kind_of f b) 3)
      (Dec.and (ℕ_discrete (version_in f b) first_version)
      (anywhere _ (count_of f b)
      (λ r. nonzero (records_at b + record_size * r + edge_reward_byte) (records_at b + record_size * r + weight_byte)))))))))

  -- A block is refused with a number, or right.
  abbrev Wrong : ℕ → Type 0
  Wrong b = (number : ℕ) × BlockRefused f b number

  block_decided : (b : ℕ) → Dec (Wrong b)
  block_decided b =
      elim (checked f b) [
        | yes c ↦ yes (21, BlockRefused.check_refused c)
        | no c ↦ elim (numbered f b) [
          | yes p ↦ yes (22, BlockRefused.block_number_refused c p)
          | no p ↦ elim (kinds b) [
            | yes k ↦ yes (23, BlockRefused.kind_refused c p k)
            | no k ↦ elim (contents b) [
              | yes n ↦ yes (24, BlockRefused.content_refused c p k n)
              | no n ↦ no (λ w. right f b c p k n w.0 w.1)
            ]
          ]
        ]
      ]

  -- The number by which an edge block is lost.
  lost_by : {b : ℕ} → Dec (Wrong b) → ℕ
  lost_by (yes w) = w.0
  lost_by (no h) = 0

  lost_kept : {b : ℕ} (d : Dec (Wrong b)) → lost_by d ≡ 0 → BlockRight f b
  unfolding lost_by
  lost_kept (yes w) e = absurd (omega (arith, block_numbers w.1))
  lost_kept (no h) e = λ number r. h (number, r)

  lost_wrong : {b : ℕ} (d : Dec (Wrong b)) → (lost_by d ≡ 0 → ⊥) → BlockRefused f b (lost_by d)
  unfolding lost_by
  lost_wrong (yes w) n = w.1
  lost_wrong (no h) n = absurd (n refl)

  verdict_of : ℕ → ℕ
  verdict_of b = choose (ltb (state_blocks f) b) (choose (ltb b (demanded f)) (lost_by (block_decided b)) 0) 0

  edge_verdict : (b : ℕ) → state_blocks f < b → b < demanded f → verdict_of b ≡ lost_by (block_decided b)
  unfolding verdict_of
  edge_verdict b l h = rw (lt-ltb (state_blocks f) b l, lt-ltb b (demanded f) h)

  other_verdict : (b : ℕ) → (b ≤ state_blocks f) ⊎ (demanded f ≤ b) → verdict_of b ≡ 0
  unfolding verdict_of
  other_verdict b (inl h) = rw (le-ltb (state_blocks f) b h)
  other_verdict b (inr h) = go (ltb (state_blocks f) b)
    where
      go : (t : Bool) → choose t (choose (ltb b (demanded f)) (lost_by (block_decided b)) 0) 0 ≡ 0
      go true = rw (le-ltb b (demanded f) h)
      go false = refl

  -- The front is refused, or the file is opened.
  pub front_decided : ((number : ℕ) × ((place : ℕ) × FrontRefused f number place)) ⊎ ((v : ℕ → ℕ) × Opened f v)
  front_decided =
      elim (lengthy f) [
        | yes w ↦ inl (20, (0, FrontRefused.length_wrong w))
        | no w ↦ elim (block_decided 0) [
          | yes h ↦ inl (h.0, (0, FrontRefused.head_wrong h.0 w h.1))
          | no h ↦ elim (ℕ_discrete (input_length f) (block_size * demanded f)) [
            | no t ↦ inl (24, (0, FrontRefused.total_wrong w (λ n r. h (n, r)) t))
            | yes t ↦ states w (λ n r. h (n, r)) (λ d. d t) (ranged Wrong (1 + state_blocks f) block_decided)
          ]
        ]
      ]
    where
      states : (LengthFault f → ⊥) → BlockRight f 0 → (TotalFault f → ⊥) → LeastPlace (λ b. (b < 1 + state_blocks f) × Wrong b)
          → ((number : ℕ) × ((place : ℕ) × FrontRefused f number place)) ⊎ ((v : ℕ → ℕ) × Opened f v)
      states w h t (at b r before) =
          let some : b ≡ 0 → ⊥ = λ e. h r.1.0 (rw e at r.1.1) in
          inl (
            r.1.0,
            (
              b,
              FrontRefused.states_wrong r.1.0 b w t (omega arith) (omega (arith, r.0))
                  (λ a l n x. before a l (omega (arith, r.0), (n, x))) r.1.1,
            ),
          )
      states w h t (nowhere right) =
          inr (
            verdict_of,
            record {
              whole = w;
              total = t;
              front = λ b l n r. right b (omega arith, (n, r));
              kept = λ b l d e. lost_kept (block_decided b) (sym (edge_verdict b l d) ∙ e);
              lost = λ b l d n. rw (edge_verdict b l d) (lost_wrong (block_decided b) (λ e. n (edge_verdict b l d ∙ e)));
              none = other_verdict;
            },
          )
