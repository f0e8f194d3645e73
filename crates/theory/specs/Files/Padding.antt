-- The two run lengths that the check does not see, in a file whose chain meets none of 3 to 11: each of its records has a byte that is not zero, so that
-- such a run reaches into the bytes after the last record, and is 24.
use Rattle.std.specs.Prelude.{ℕ, ◌+◌, ◌*◌, ◌-◌, ◌/◌, ◌%◌, ◌≤◌, ◌<◌, ◌≡◌, refl, get_or}
use Rattle.std.proofs.Math.Path.{sym, ap}
use Rattle.std.proofs.Common.{ap₂, subst, ◌∙◌, inl, add-zero, arith}
use Rattle.std.proofs.Math.Logic.{⊎_elim}
use Rattle.meaning.specs.Number.{sum_to}
use Rattle.meaning.specs.Chain.{edge_size, edge_number, weight}
use Rattle.meaning.specs.Refusal.{paid, Applies}
use Rattle.meaning.specs.Block.{Input, byte, kind_at, version_at, block_number_at, count_at, records_at, record_size, full_block, second_version, version_in, head_states, head_edges, state_blocks, demanded, state_at, edge_at, denominator_in, weight_in}
use Rattle.meaning.specs.File.{
  kind_of,
  count_of,
  ContentFault,
  BlockRefused,
  FileRefused,
  Accepted,
  edge_in,
  edges_in,
  paid_in,
}
use Rattle.theory.specs.Numbers.Sum.{same, below}
use Rattle.theory.specs.Numbers.Tab.{tab_at, tab_length}
use Rattle.theory.specs.Files.Turn.{Turn, turn, count_most}
use Rattle.theory.specs.Files.Right.{right_laid, bounded}
use Rattle.theory.specs.Files.Agree.{Agree, number_agree, number_zero, kinds_agree, counts_agree}
use Rattle.theory.specs.Files.Damage.{refused_there}
use Rattle.theory.specs.Files.Runs.{Overwritten, Whole, beside, there, version, run_matches}

weight_in_lem : (f : Input) (e : ℕ) → e < head_edges f → weight (edges_in f) e ≡ weight_in f e
weight_in_lem f e h =
    tab_at (edge_size * head_edges f) (edge_number (edge_in f)) 0 (edge_size * e + 2) (omega arith)
    ∙ (let q : (edge_size * e + 2) / edge_size ≡ e = omega arith in
    let m : (edge_size * e + 2) % edge_size ≡ 2 = omega arith in
    ap₂ (λ x y. get_or (edge_in f x) y 0) q m)

module _ {f : Input} {b : ℕ} (accepted : Accepted f) (inside : b < demanded f) (clear : (k p : ℕ) → 3 ≤ k → Applies paid (paid_in f) k p → ⊥) where
  -- Record r of the block has a byte that is not zero.
  record_some : (r : ℕ) → r < count_of f b → ((i : ℕ) → records_at b + record_size * r ≤ i → i < records_at b + record_size * r + record_size → byte f i ≡ 0) → ⊥
  record_some r h z = go (turn f b)
    where
      go : Turn f b → ⊥
      go (Turn.head e k n) =
          let some = (bounded f (accepted.blocks 0 (omega arith))).some_states in
          let none = z (records_at 0) (omega arith) (omega arith) in
          omega arith
      go (Turn.state p l k n) =
          let i = full_block * (b - 1) + r in
          let m : i < head_states f = omega arith in
          clear 5 i (omega arith)
          (m, inl (tab_at (head_states f) (denominator_in f) 0 i m ∙ number_zero f (state_at i) 4 (λ j x y. z j (omega arith) (omega arith))))
      go (Turn.edge p l k n) =
          let e = full_block * (b - 1 - state_blocks f) + r in
          let m : e < head_edges f = omega arith in
          clear 7 e (omega arith) (
            omega (arith, tab_length 0 (edge_size * head_edges f) (edge_number (edge_in f))),
            inl (weight_in_lem f e m ∙ number_zero f (edge_at f e + 4) 4 (λ j x y. z j (omega arith) (omega arith))),
          )

  some_records : 0 < count_of f b
  some_records = go (turn f b)
    where
      go : Turn f b → 0 < count_of f b
      go (Turn.head e k n) = omega arith
      go (Turn.state p l k n) = omega arith
      go (Turn.edge p l k n) = omega arith

  -- So its count, whose low byte is byte 4, is no zero.
  some_count : byte f (count_at b) ≡ 0 → ⊥
  unfolding sum_to
  some_count z = omega (arith, ap (byte f) (add-zero (count_at b)), some_records, count_most f b, (right_laid (accepted.blocks b inside)).counts)

module _ {f g : Input} {b k long : ℕ} (accepted : Accepted f) (inside : b < demanded f) (second : version_in f 0 ≡ second_version)
    (over : Overwritten f g b k long) (clear : (k p : ℕ) → 3 ≤ k → Applies paid (paid_in f) k p → ⊥) (two : Whole long)
  where
    wide : 251 ≤ long
    wide = ⊎_elim (λ e. omega arith) (λ e. omega arith) two

    low : 5 ≤ k
    low =
        ⊎_elim
        (λ (h : k < 5). absurd (some_count accepted inside clear (over.run.zeros (count_at b) (omega arith) (omega (arith, wide)))))
        (λ (h : 5 ≤ k). h)
        (below k 5)

    front : (i : ℕ) → i < count_at b → byte f i ≡ byte g i
    front i h = beside accepted inside second over i (inl (omega (arith, low)))

    turn_same : (kind_of f b ≡ kind_of g b) × (count_of f b ≡ count_of g b)
    turn_same =
        ⊎_elim
        (λ (z : b ≡ 0). subst (λ a. (kind_of f a ≡ kind_of g a) × (count_of f a ≡ count_of g a)) (sym z) (refl, refl))
        (λ (d : b ≡ 0 → ⊥).
        let head : Agree f g 0 = λ i l h v. front i (omega arith) in
        (kinds_agree f g head b, counts_agree f g head b))
        (same b 0)

    head_version : version_in g 0 ≡ second_version
    head_version = sym (front (version_at 0) (omega arith)) ∙ second

    -- The first whole record's room in the run.
    slot : ℕ
    slot = (k + 1) / record_size

    past : count_of f b ≤ slot
    unfolding slot
    past =
        ⊎_elim
        (λ (h : slot < count_of f b).
        absurd (record_some accepted inside clear slot h (λ i l m. over.run.zeros i (omega arith) (omega (arith, wide)))))
        (λ (h : count_of f b ≤ slot). h)
        (below slot (count_of f b))

    pub padding_refused : FileRefused g 24 b
    unfolding slot
    padding_refused =
        let laid = right_laid (accepted.blocks b inside) in
        let at = records_at b + record_size * slot in
        let here = over.run.ones at (omega arith) (omega (arith, wide)) in
        refused_there accepted inside (there accepted inside second over)
        (BlockRefused.content_refused (run_matches accepted inside second over two)
        (λ d. d (sym (number_agree f g (block_number_at b) 2 (λ i l h. front i (omega arith))) ∙ laid.place))
        (⊎_elim (λ d. d (sym (front (kind_at b) (omega arith)) ∙ laid.kind ∙ turn_same.0))
        (⊎_elim (λ d. d.1 (version accepted inside second over)) (λ d. d (version accepted inside second over ∙ sym head_version))))
        (ContentFault.rest_wrong (at, (omega (arith, past, turn_same.1), (omega (arith, over.within, wide), λ z. omega arith)))))
