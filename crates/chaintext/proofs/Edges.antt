-- The line of an edge, from its pieces.
use Prim.Native.Nat.{ℕ, ◌≤◌, ◌<◌}
use native.Mathlib.Omega.{arith}
use mathlib.Core.Path.{◌≡◌, sym, ap, ◌∙◌}
use mathlib.Core.List.{List, [], ◌++◌, append-nil}
use lib.ListN.{length, drop, length-drop, drop_of_length-le}
use Rattle.meaning.specs.Text.{bytes_of}
use Rattle.meaning.specs.Report.{named_text}
use Rattle.theory.specs.Texts.Lines.{space, nothing, regroup}
use Rattle.chaintext.specs.Pieces.{NumberAt, NumberRead}
use Rattle.chaintext.specs.Lines.{IsEdge, EdgeRead}
use Rattle.std.proofs.Common.{Some, None}
use Rattle.chaintext.proofs.Naming.{piece_one}

-- The pieces of the line.
abbrev P₁ : ℕ → List ℕ
P₁ = named_text (bytes_of "edge ")

abbrev P₂ : ℕ → List ℕ
P₂ = named_text (bytes_of " ")

abbrev P₃ : ℕ → List ℕ
P₃ = named_text (bytes_of " weight ")

abbrev P₄ : ℕ → List ℕ
P₄ = named_text (bytes_of " reward ")

module _ {line : List ℕ} where
  first : {a b w r : ℕ} → IsEdge line a b w r → drop 0 line ≡ P₁ a ++ (P₂ b ++ (P₃ w ++ P₄ r))
  first {a} {b} {w} {r} i = i.line_is ∙ regroup (P₁ a) (P₂ b) (P₃ w) (P₄ r)

  pub none₁ : NumberRead line 0 (bytes_of "edge ") 255 None → EdgeRead line None
  none₁ n =
      record { told = λ a b w r i. n.told a (P₂ b ++ (P₃ w ++ P₄ r)) (omega (arith, i.fits.source_fits)) space (first i) }

  module _ {x₁ at₁ : ℕ} (n₁ : NumberAt line 0 (bytes_of "edge ") 255 x₁ at₁) where
    second : {a b w r : ℕ} → IsEdge line a b w r → drop at₁ line ≡ P₂ b ++ (P₃ w ++ P₄ r)
    second {a} {b} {w} {r} i = (piece_one n₁ a (P₂ b ++ (P₃ w ++ P₄ r)) space (first i)).1

    pub none₂ : NumberRead line at₁ (bytes_of " ") 255 None → EdgeRead line None
    none₂ n =
        record { told = λ a b w r i. n.told b (P₃ w ++ P₄ r) (omega (arith, i.fits.target_fits)) space (second i) }

    module _ {x₂ at₂ : ℕ} (n₂ : NumberAt line at₁ (bytes_of " ") 255 x₂ at₂) where
      third : {a b w r : ℕ} → IsEdge line a b w r → drop at₂ line ≡ P₃ w ++ P₄ r
      third {a} {b} {w} {r} i = (piece_one n₂ b (P₃ w ++ P₄ r) space (second i)).1

      pub none₃ : NumberRead line at₂ (bytes_of " weight ") 4294967295 None → EdgeRead line None
      none₃ n = record { told = λ a b w r i. n.told w (P₄ r) (omega (arith, i.fits.weight_fits)) space (third i) }

      module _ {x₃ at₃ : ℕ} (n₃ : NumberAt line at₂ (bytes_of " weight ") 4294967295 x₃ at₃) where
        fourth : {a b w r : ℕ} → IsEdge line a b w r → drop at₃ line ≡ P₄ r ++ []
        fourth {a} {b} {w} {r} i = (piece_one n₃ w (P₄ r) space (third i)).1 ∙ sym (append-nil (P₄ r))

        pub none₄ : NumberRead line at₃ (bytes_of " reward ") 65535 None → EdgeRead line None
        none₄ n = record { told = λ a b w r i. n.told r [] i.fits.reward_fits nothing (fourth i) }

        module _ {x₄ at₄ : ℕ} (n₄ : NumberAt line at₃ (bytes_of " reward ") 65535 x₄ at₄) where
          -- Bytes are left over.
          pub none₅ : at₄ < length line → EdgeRead line None
          none₅ h =
              record {
                told = λ a b w r i.
                    let e : drop at₄ line ≡ [] = (piece_one n₄ r [] nothing (fourth i)).1 in
                    let z : length (drop at₄ line) ≡ 0 = ap length e in
                    omega (arith, length-drop at₄ line);
              }

          pub whole : length line ≤ at₄ → EdgeRead line (Some (record { from = x₁; to = x₂; weight = x₃; reward = x₄ }))
          whole h =
              let end : drop at₃ line ≡ P₄ x₄ = n₄.stands.cut ∙ ap (λ z. P₄ x₄ ++ z) (drop_of_length-le line h) ∙ append-nil (P₄ x₄) in
              record {
                told = record {
                  fits = record {
                    source_fits = omega (arith, n₁.small);
                    target_fits = omega (arith, n₂.small);
                    weight_fits = omega (arith, n₃.small);
                    reward_fits = n₄.small;
                  };
                  line_is = n₁.stands.cut
                      ∙ ap (λ z. P₁ x₁ ++ z) (n₂.stands.cut ∙ ap (λ z. P₂ x₂ ++ z) (n₃.stands.cut ∙ ap (λ z. P₃ x₃ ++ z) end))
                      ∙ sym (regroup (P₁ x₁) (P₂ x₂) (P₃ x₃) (P₄ x₄));
                };
              }
