-- Two inputs with the same bytes in the head and in a block: the tests of that block find the same.
use Rattle.std.specs.Prelude.{ℕ, suc, ◌+◌, ◌*◌, ◌-◌, ◌%◌, ◌^◌, ◌≤◌, ◌<◌, min, ◌≡◌, ◌⊎◌, eqb, leb}
use Rattle.std.proofs.Common.{sym, ap, ap₂, subst, ◌∙◌, ⊎_elim, inl, inr, zero-mul, arith}
use Rattle.meaning.specs.Number.{choose}
use Rattle.meaning.specs.Chain.{most_states, most_edges}
use Rattle.meaning.specs.Block.{
  Input,
  byte,
  block_byte,
  number_at,
  block_at,
  kind_at,
  version_at,
  block_number_at,
  count_at,
  records_at,
  check_at,
  record_size,
  full_block,
  first_sum,
  second_sum,
  first_version,
  version_in,
  check_modulus,
  check_begin,
  checked_bytes,
  blocks_of,
  head_states,
  head_edges,
  demanded,
  flag_byte,
}
use Rattle.meaning.specs.File.{
  CheckFault,
  BlockNumberFault,
  kind_of,
  count_of,
  NonZero,
  HeadFault,
  ContentFault,
  BlockRight,
}
use Rattle.theory.specs.Numbers.Sum.{same, sum_ext, sum_zero}
use Rattle.theory.specs.Files.Sums.{first_like, second_like}
use Rattle.theory.specs.Files.Turn.{count_most}
use Rattle.theory.specs.Files.Right.{right, right_laid, unchecked, unplaced, unkind, content_right}

-- Two inputs have the same bytes in block b, but perhaps its version.
abbrev pub Agree : Input → Input → ℕ → Type 0
Agree f g b = (i : ℕ) → block_at b ≤ i → i < block_at (suc b) → (i ≡ version_at b → ⊥) → byte f i ≡ byte g i

pub number_agree : (f g : Input) (j width : ℕ) → ((i : ℕ) → j ≤ i → i < j + width → byte f i ≡ byte g i) → number_at f j width ≡ number_at g j width
number_agree f g j width h = sum_ext _ _ width (λ i l. ap (λ z. z * 256 ^ i) (h (j + i) (omega arith) (omega arith)))

-- A number whose bytes are all zero.
pub number_zero : (f : Input) (j width : ℕ) → ((i : ℕ) → j ≤ i → i < j + width → byte f i ≡ 0) → number_at f j width ≡ 0
number_zero f j width h = sum_zero _ width (λ i l. ap (λ z. z * 256 ^ i) (h (j + i) (omega arith) (omega arith)) ∙ zero-mul (256 ^ i))

nonzero_agree : (f g : Input) {low high : ℕ} → ((i : ℕ) → low ≤ i → i < high → byte f i ≡ byte g i) → NonZero g low high → NonZero f low high
nonzero_agree f g h w = (w.0, (w.1.0, (w.1.1.0, λ z. w.1.1.1 (sym (h w.0 w.1.0 w.1.1.0) ∙ z))))

-- One of the sums of block b, by the rule of the block's own version.
abbrev pub sum_of : (ℕ → ℕ → (ℕ → ℕ) → ℕ → ℕ) → Input → ℕ → ℕ
sum_of sum f b = sum (check_modulus (version_in f b)) (check_begin (version_in f b)) (block_byte f b) checked_bytes

pub sums_agree : (f g : Input) (b : ℕ) → ((i : ℕ) → i < checked_bytes → block_byte f b i ≡ block_byte g b i)
    → (sum_of first_sum f b ≡ sum_of first_sum g b) × (sum_of second_sum f b ≡ sum_of second_sum g b)
sums_agree f g b h =
    let m = check_modulus (version_in f b) in
    let s = check_begin (version_in f b) in
    let like : (i : ℕ) → i < checked_bytes → block_byte f b i % m ≡ block_byte g b i % m = λ i l. ap (λ z. z % m) (h i l) in
    let e : version_in f b ≡ version_in g b = h 1 (omega arith) in (
      first_like m s (block_byte f b) (block_byte g b) checked_bytes like ∙ ap (λ v. first_sum (check_modulus v) (check_begin v) (block_byte g b) checked_bytes) e,
      second_like m s (block_byte f b) (block_byte g b) checked_bytes like ∙ ap (λ v. second_sum (check_modulus v) (check_begin v) (block_byte g b) checked_bytes) e,
    )

module _ (f g : Input) (head : Agree f g 0) where
  states_agree : head_states f ≡ head_states g
  states_agree = head (records_at 0) (omega arith) (omega arith) (λ e. omega arith)

  edges_agree : head_edges f ≡ head_edges g
  edges_agree = number_agree f g (records_at 0 + 2) 2 (λ i l h. head i (omega arith) (omega arith) (λ e. omega arith))

  pub demanded_agree : demanded f ≡ demanded g
  demanded_agree = ap₂ (λ n e. 1 + blocks_of n + blocks_of e) states_agree edges_agree

  pub kinds_agree : (b : ℕ) → kind_of f b ≡ kind_of g b
  kinds_agree b = ap (λ n. choose (eqb b 0) 1 (choose (leb b (blocks_of n)) 2 3)) states_agree

  pub counts_agree : (b : ℕ) → count_of f b ≡ count_of g b
  counts_agree b =
      ap₂ (λ n e.
      choose (eqb b 0) 1
      (choose (leb b (blocks_of n)) (min full_block (n - full_block * (b - 1))) (min full_block (e - full_block * (b - 1 - blocks_of n)))))
      states_agree edges_agree

module _ (f g : Input) (b : ℕ) (head : Agree f g 0) (own : Agree f g b) where
  -- The check, where the version is the same too.
  pub check_agree : version_in f b ≡ version_in g b → CheckFault g b → CheckFault f b
  check_agree e =
      ⊎_elim
      (λ d. inl (λ q. d (sym (own (check_at b) (omega arith) (omega arith) (λ z. omega arith)) ∙ q ∙ (sums_agree f g b all).0)))
      (λ d. inr (λ q. d (sym (own (check_at b + 1) (omega arith) (omega arith) (λ z. omega arith)) ∙ q ∙ (sums_agree f g b all).1)))
    where
      all : (i : ℕ) → i < checked_bytes → block_byte f b i ≡ block_byte g b i
      all i l =
          ⊎_elim (λ (z : i ≡ 1). rw z e) (λ (d : i ≡ 1 → ⊥). own (block_at b + i) (omega arith) (omega arith) (λ z. d (omega arith))) (same i 1)

  pub place_agree : BlockNumberFault g b → BlockNumberFault f b
  place_agree d q = d (sym (number_agree f g (block_number_at b) 2 (λ i l h. own i (omega arith) (omega arith) (λ e. omega arith))) ∙ q)

  pub kind_agree : byte f (kind_at b) ≡ kind_of f b → byte g (kind_at b) ≡ kind_of g b
  kind_agree q = sym (own (kind_at b) (omega arith) (omega arith) (λ e. omega arith)) ∙ q ∙ (kinds_agree f g head b)

  inner : (i : ℕ) → records_at b ≤ i → i < check_at b → byte f i ≡ byte g i
  inner i l h = own i (omega arith) (omega arith) (λ e. omega arith)

  head_agree : HeadFault g → HeadFault f
  head_agree =
      ⊎_elim (λ w. inl (subst (λ n. (n ≡ 0) ⊎ (most_states < n)) (sym (states_agree f g head)) w))
      (⊎_elim (λ w. inr (inl (subst (λ n. (n ≡ 0) ⊎ (most_edges < n)) (sym (edges_agree f g head)) w)))
      (λ w. inr (inr (nonzero_agree f g (λ i l h. head i (omega arith) (omega arith) (λ e. omega arith)) w))))

  -- What stands in it, where an edge block's version is the same too.
  pub content_agree : (kind_of g b ≡ 3 → version_in g b ≡ first_version → version_in f b ≡ first_version) → ContentFault g b → ContentFault f b
  content_agree v (ContentFault.count_wrong d) =
      let e = number_agree f g (count_at b) 2 (λ i l h. own i (omega arith) (omega arith) (λ e. omega arith)) in
      ContentFault.count_wrong (λ q. d (sym e ∙ q ∙ counts_agree f g head b))
  content_agree v (ContentFault.rest_wrong w) =
      ContentFault.rest_wrong (rw (counts_agree f g head b) (nonzero_agree f g (λ i l h. inner i (omega arith) h) w))
  content_agree v (ContentFault.record_wrong k w) = ContentFault.record_wrong (kinds_agree f g head b ∙ k) (head_agree w)
  content_agree v (ContentFault.flag_wrong k w) =
      let c = count_most g b in
      ContentFault.flag_wrong (kinds_agree f g head b ∙ k) (
        w.0,
        (
          omega (arith, counts_agree f g head b, w.1.0),
          rw (inner (records_at b + record_size * w.0 + flag_byte) (omega arith) (omega (arith, w.1.0))) w.1.1,
        ),
      )
  content_agree v (ContentFault.reserved_wrong k o w) =
      let c = count_most g b in
      let l = w.1.0 in
      ContentFault.reserved_wrong (kinds_agree f g head b ∙ k) (v k o)
      (w.0, (omega (arith, counts_agree f g head b), nonzero_agree f g (λ i m h. inner i (omega arith) (omega arith)) w.1.1))

  -- The whole block, where both versions are the same too.
  pub right_agree : version_in f b ≡ version_in g b → version_in f 0 ≡ version_in g 0 → BlockRight f b → BlockRight g b
  right_agree e z r =
      let l = right_laid r in
      right g b (λ w. unchecked r (check_agree e w)) (λ w. unplaced r (place_agree w))
      (⊎_elim (λ d. d (kind_agree l.kind)) (λ w. unkind r (inr (rw (e, z) w))))
      (λ w. content_right r (content_agree (λ _ o. e ∙ o) w))
