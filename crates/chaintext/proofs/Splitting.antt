-- The lines of a text, found one after the other.
use Prim.Native.Nat.{ℕ, ◌+◌, ◌-◌, ◌≤◌, ◌<◌}
use native.Mathlib.Omega.{arith}
use mathlib.Core.Path.{◌≡◌, sym, ◌∙◌}
use mathlib.Core.Logic.{⊎_elim}
use mathlib.Core.List.{List}
use lib.ListN.{length, get_or, take, drop, length-take, get_or-eq_default}
use lib.Seq.{get_or-take, get_or-drop}
use Rattle.meaning.specs.ChainText.{newline, OneLine}
use Rattle.theory.specs.Numbers.Sum.{below}
use Rattle.std.proofs.Common.{Option, Some, None, MatchOption, unwrap_or}
use Rattle.chaintext.specs.Split.{LineEnd}

-- What stands from one place to another with no newline between them is one line.
pub end_line : (text : List ℕ) (at i : ℕ) → at ≤ i → ((k : ℕ) → at ≤ k → k < i → get_or text k 0 ≡ newline → ⊥)
    → OneLine (take (i - at) (drop at text))
end_line text at i h f =
    record {
      unbroken = λ j e.
          ⊎_elim
          (λ (b : j < i - at).
          f (at + j) (omega arith) (omega arith) (sym (get_or-take (i - at) (drop at text) j 0 b ∙ get_or-drop at text j 0) ∙ e))
          (λ (b : i - at ≤ j).
          let z = get_or-eq_default (take (i - at) (drop at text)) 0 {n = j} (omega (arith, length-take (i - at) (drop at text))) in
          omega arith)
          (below j (i - at));
    }

-- The first newline from a place on, or the end of the text where there is none.
pub line_end : (text : List ℕ) (at : ℕ) → at ≤ length text → (r : Option ℕ)
    → MatchOption r ((k : ℕ) → at ≤ k → k < length text → get_or text k 0 ≡ newline → ⊥)
    (λ i. (at ≤ i) × (i < length text) × (get_or text i 0 ≡ newline) × ((k : ℕ) → at ≤ k → k < i → get_or text k 0 ≡ newline → ⊥))
    → LineEnd text at (unwrap_or r (length text))
line_end text at h None f =
    record { from_place = h; inside = omega arith; line = end_line text at (length text) h f; stops = λ l. absurd (omega arith) }
line_end text at h (Some i) f =
    record { from_place = f.0; inside = omega (arith, f.1); line = end_line text at i f.0 f.3; stops = λ l. f.2 }
