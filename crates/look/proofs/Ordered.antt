-- The states that are seen in an order, entry by entry.
use Prim.Native.Nat.{ℕ, ◌+◌, ◌^◌, ◌≤◌, ◌<◌}
use mathlib.Core.Path.{◌≡◌, sym, ◌∙◌}
use mathlib.Core.Logic.{◌↔◌, ⊎_elim, inl, inr}
use mathlib.Core.List.{List}
use native.Mathlib.Omega.{arith}
use native.Mathlib.Nat.{zero-div}
use lib.Bits.{bit_or}
use lib.ListN.{get_or}
use Rattle.meaning.specs.Number.{bit}
use Rattle.meaning.specs.Refusal.{OrderFault}
use Rattle.theory.specs.Numbers.Bits.{in_joined}
use Rattle.theory.specs.Numbers.Search.{Before, longer}

-- State s is one of the first p entries.
abbrev Stood : List ℕ → ℕ → ℕ → Type 0
Stood order s p = Before (λ o. get_or order o 0 ≡ s) p

-- The first p entries are seen, and no other states.
pub record Seen (order : List ℕ) (seen p : ℕ) : Type 0 where
  pub is : (s : ℕ) → (bit seen s ≡ 1) ↔ Stood order s p

module _ (order : List ℕ) where
  pub none : Seen order 0 0
  none = record { is = λ s. rw (zero-div (2 ^ s)) (λ b. absurd (omega arith), λ w. absurd (omega (arith, w.1.0))) }

  module _ (seen p : ℕ) (h : Seen order seen p) (s : ℕ) (e : s ≡ get_or order p 0) where
    pub stood : {n : ℕ} → p < n → bit seen s ≡ 1 → OrderFault n order p
    stood l b = let w = (h.is s).0 b in (l, inr (w.0, (w.1.0, w.1.1 ∙ e)))

    pub fresh : {n : ℕ} → s < n → (bit seen s ≡ 1 → ⊥) → OrderFault n order p → ⊥
    fresh {n} l not bad = ⊎_elim (λ (out : n ≤ get_or order p 0). omega arith) (λ w. not ((h.is s).1 (w.0, (w.1.0, w.1.1 ∙ sym e)))) bad.1

    pub more : Seen order (bit_or seen (2 ^ s)) (p + 1)
    more =
        record {
          is = λ t. (
            λ b.
                (longer (λ o. get_or order o 0 ≡ t) p).1
                (⊎_elim (λ (o : bit seen t ≡ 1). inl ((h.is t).0 o)) (λ (q : t ≡ s). inr (sym (q ∙ e))) ((in_joined seen s t).0 b)),
            λ w.
                (in_joined seen s t).1
                (⊎_elim
                (λ (o : Stood order t p). inl ((h.is t).1 o))
                (λ (q : get_or order p 0 ≡ t). inr (sym q ∙ sym e))
                ((longer (λ o. get_or order o 0 ≡ t) p).0 w)),
          );
        }
