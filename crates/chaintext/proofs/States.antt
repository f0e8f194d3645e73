-- The line of a state, from its pieces.
use Prim.Native.Nat.{ℕ}
use native.Mathlib.Omega.{arith}
use mathlib.Core.Path.{◌≡◌, ◌∙◌}
use mathlib.Core.Bool.{Bool}
use mathlib.Core.List.{List, [], ◌++◌}
use lib.ListN.{drop}
use Rattle.meaning.specs.Number.{choose}
use Rattle.meaning.specs.Text.{bytes_of}
use Rattle.meaning.specs.Report.{named_text}
use Rattle.theory.specs.Texts.Lines.{space, regroup, goal_ended}
use Rattle.chaintext.specs.Pieces.{NumberAt, NumberRead}
use Rattle.chaintext.specs.Lines.{IsState, StateRead, RestRead}
use Rattle.std.proofs.Common.{None}
use Rattle.chaintext.proofs.Naming.{piece_one}

-- The pieces of the line.
abbrev P₁ : ℕ → List ℕ
P₁ = named_text (bytes_of "state ")

abbrev P₂ : ℕ → List ℕ
P₂ = named_text (bytes_of " denominator ")

abbrev P₃ : ℕ → List ℕ
P₃ = named_text (bytes_of " reward ")

abbrev P₄ : Bool → List ℕ
P₄ g = choose g (bytes_of " goal") []

module _ {line : List ℕ} {i : ℕ} where
  first : {d r : ℕ} {g : Bool} → IsState line i d r g → drop 0 line ≡ P₁ i ++ (P₂ d ++ (P₃ r ++ P₄ g))
  first {d} {r} {g} s = s.line_is ∙ regroup (P₁ i) (P₂ d) (P₃ r) (P₄ g)

  module _ {x₁ at₁ : ℕ} (n₁ : NumberAt line 0 (bytes_of "state ") 63 x₁ at₁) where
    pub other : (x₁ ≡ i → ⊥) → StateRead line i None
    other f = record { told = λ d r g s. f (piece_one n₁ i (P₂ d ++ (P₃ r ++ P₄ g)) space (first s)).0 }

    second : {d r : ℕ} {g : Bool} → IsState line i d r g → drop at₁ line ≡ P₂ d ++ (P₃ r ++ P₄ g)
    second {d} {r} {g} s = (piece_one n₁ i (P₂ d ++ (P₃ r ++ P₄ g)) space (first s)).1

    pub none₂ : NumberRead line at₁ (bytes_of " denominator ") 4294967295 None → StateRead line i None
    none₂ n =
        record { told = λ d r g s. n.told d (P₃ r ++ P₄ g) (omega (arith, s.denominator_fits)) space (second s) }

    module _ {x₂ at₂ : ℕ} (n₂ : NumberAt line at₁ (bytes_of " denominator ") 4294967295 x₂ at₂) where
      third : {d r : ℕ} {g : Bool} → IsState line i d r g → drop at₂ line ≡ P₃ r ++ P₄ g
      third {d} {r} {g} s = (piece_one n₂ d (P₃ r ++ P₄ g) space (second s)).1

      pub none₃ : NumberRead line at₂ (bytes_of " reward ") 65535 None → StateRead line i None
      none₃ n = record { told = λ d r g s. n.told r (P₄ g) s.reward_fits (goal_ended g) (third s) }

      module _ {x₃ at₃ : ℕ} (n₃ : NumberAt line at₂ (bytes_of " reward ") 65535 x₃ at₃) where
        pub none₄ : RestRead line at₃ None → StateRead line i None
        none₄ w = record { told = λ d r g s. w.told g (piece_one n₃ r (P₄ g) (goal_ended g) (third s)).1 }
