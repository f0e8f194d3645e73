-- A version byte changed in a version 2 file, and a version that is unknown.
use Rattle.std.specs.Prelude.{ℕ, ◌*◌, ◌≤◌, ◌<◌, ◌≡◌, refl, ◌⊎◌}
use Rattle.std.proofs.Common.{sym, ap, subst, ◌∙◌, inl, inr, ⊎_elim, arith}
use Rattle.meaning.specs.Block.{
  Input,
  block_size,
  version_at,
  first_version,
  second_version,
  version_in,
  demanded,
}
use Rattle.meaning.specs.File.{
  CheckFault,
  BlockNumberFault,
  BlockRefused,
  BlockRight,
  FileRefused,
  Accepted,
}
use Rattle.theory.specs.Numbers.Sum.{same, below}
use Rattle.theory.specs.Files.Right.{checked, numbered, right, right_laid, unplaced, unchecked, content_right, bounded}
use Rattle.theory.specs.Files.Agree.{Agree, demanded_agree, check_agree, place_agree, kind_agree, content_agree}
use Rattle.theory.specs.Files.Damage.{Elsewhere, Changed, around, whole, refused_there}

-- Refused somewhere, with 21 or 23.
abbrev pub VersionSeen : Input → Type 0
VersionSeen g = (n p : ℕ) × FileRefused g n p × ((n ≡ 21) ⊎ (n ≡ 23))

-- The version byte of one block changed to anything else: 21 or 23. Where the head's becomes 1 and its check matches, block 1 is refused.
module _ {f g : Input} {b : ℕ} (accepted : Accepted f) (inside : b < demanded f) (changed : Changed f g b 1) (second : version_in f 0 ≡ second_version) where
  agree_all : (a : ℕ) → Agree f g a
  agree_all a i l h v = changed.others i (λ e. let z : a ≡ b = omega arith in v (e ∙ ap version_at (sym z)))

  other_version : (a : ℕ) → (a ≡ b → ⊥) → version_in f a ≡ version_in g a
  other_version a d = changed.others (version_at a) (λ e. d (omega arith))

  carries : (a : ℕ) → a < demanded f → version_in f a ≡ second_version
  carries a h = (right_laid (accepted.blocks a h)).versioned ∙ second

  placed : (a : ℕ) → a < demanded f → BlockNumberFault g a → ⊥
  placed a h w = unplaced (accepted.blocks a h) (place_agree f g a (agree_all 0) (agree_all a) w)

  there : Elsewhere f g b
  there = around accepted inside changed (omega arith)

  further : (b ≡ 0 → ⊥) → (CheckFault g b → ⊥) → FileRefused g 23 b
  further d c =
      refused_there accepted inside there
      (BlockRefused.kind_refused c (placed b inside)
      (inr (inr (λ e. changed.differs (carries b inside ∙ sym (e ∙ sym (other_version 0 (λ z. d (sym z))) ∙ second))))))

  unknown_head : (version_in g b ≡ first_version → ⊥) → (CheckFault g b → ⊥) → FileRefused g 23 b
  unknown_head n c =
      refused_there accepted inside there
      (BlockRefused.kind_refused c (placed b inside) (inr (inl (n, λ e. changed.differs (carries b inside ∙ sym e)))))

  first_head : b ≡ 0 → version_in g b ≡ first_version → (CheckFault g b → ⊥) → FileRefused g 23 1
  first_head z e c =
      FileRefused.block_wrong 23 1 (whole accepted inside there)
      (λ t. accepted.total (λ q. t (sym changed.same_length ∙ q ∙ ap (λ x. block_size * x) more))) (omega arith) (omega (arith, two, more))
      (λ a h. subst (BlockRight g) (omega arith) head)
      (BlockRefused.kind_refused
      (λ w. unchecked (accepted.blocks 1 two) (check_agree f g 1 (agree_all 0) (agree_all 1) (other_version 1 (λ y. omega arith)) w))
      (placed 1 two) (inr (inr unlike)))
    where
      two : 1 < demanded f
      two = let n = bounded f (accepted.blocks 0 (omega arith)) in omega (arith, n.some_states, n.some_edges)

      more : demanded f ≡ demanded g
      more = demanded_agree f g (agree_all 0)

      head : BlockRight g b
      head =
          right g b c (placed b inside)
          (⊎_elim (λ d. d (kind_agree f g b (agree_all 0) (agree_all b) (right_laid (accepted.blocks b inside)).kind))
          (⊎_elim (λ d. d.0 e) (λ d. d (ap (version_in g) z))))
          (λ w. content_right (accepted.blocks b inside) (content_agree f g b (agree_all 0) (agree_all b) (λ k _. absurd (let y : ◌≡◌ {A = ℕ} 1 3 = rw z at k in omega arith)) w))

      unlike : version_in g 1 ≡ version_in g 0 → ⊥
      unlike q =
          let x : version_in g 1 ≡ second_version = sym (other_version 1 (λ y. omega arith)) ∙ carries 1 two in
          let y : version_in g 0 ≡ first_version = ap (version_in g) (sym z) ∙ e in
          omega arith

  pub version_refused : VersionSeen g
  version_refused =
      elim (checked g b) [
        | yes w ↦ (21, b, refused_there accepted inside there (BlockRefused.check_refused w), inl refl)
        | no c ↦ ⊎_elim
            (λ (e : version_in g b ≡ first_version).
            ⊎_elim (λ (z : b ≡ 0). (23, 1, first_head z e c, inr refl)) (λ (d : b ≡ 0 → ⊥). (23, b, further d c, inr refl)) (same b 0))
            (λ (n : version_in g b ≡ first_version → ⊥). (23, b, unknown_head n c, inr refl))
            (same (version_in g b) first_version)
      ]

-- A version that is neither 1 nor 2.
module _ (f : Input) (b : ℕ) (first : version_in f b ≡ first_version → ⊥) (second : version_in f b ≡ second_version → ⊥) where
  -- The block is refused, by 21, 22 or 23.
  pub unknown_refused : (n : ℕ) × BlockRefused f b n × (n ≤ 23)
  unknown_refused =
      elim (checked f b) [
        | yes w ↦ (21, BlockRefused.check_refused w, omega arith)
        | no c ↦ elim (numbered f b) [
          | yes w ↦ (22, BlockRefused.block_number_refused c w, omega arith)
          | no p ↦ (23, BlockRefused.kind_refused c p (inr (inl (first, second))), omega arith)
        ]
      ]

  -- So the file is refused at that block at the latest.
  pub unknown_unaccepted : b < demanded f → Accepted f → ⊥
  unknown_unaccepted h a = a.blocks b h unknown_refused.0 unknown_refused.1

  pub unknown_latest : {n p : ℕ} → FileRefused f n p → p ≤ b
  unknown_latest (FileRefused.length_wrong w) = omega arith
  unknown_latest (FileRefused.head_wrong n l w) = omega arith
  unknown_latest (FileRefused.total_wrong l h w) = omega arith
  unknown_latest (FileRefused.block_wrong n p l t z m a w) =
      ⊎_elim (λ (h : b < p). absurd (a b h unknown_refused.0 unknown_refused.1)) (λ (h : p ≤ b). h) (below b p)
