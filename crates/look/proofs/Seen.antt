-- The targets that are seen from each state, edge by edge.
use Prim.Native.Nat.{ℕ, ◌+◌, ◌^◌, ◌<◌}
use mathlib.Core.Path.{◌≡◌, refl, sym, subst, ◌∙◌}
use mathlib.Core.Logic.{◌⊎◌, ◌↔◌, ⊎_elim, inl, inr}
use mathlib.Core.List.{List}
use native.Mathlib.Omega.{arith}
use native.Mathlib.Nat.{zero-div}
use lib.Bits.{bit_or}
use lib.ListN.{length, get_or, set, replicate, length-set, length-replicate, get_or-replicate}
use lib.Seq.{get_or-set_same, get_or-set_other}
use Rattle.meaning.specs.Number.{bit}
use Rattle.meaning.specs.Chain.{most_states, edge_count, from, to}
use Rattle.meaning.specs.Refusal.{PairFault}
use Rattle.theory.specs.Numbers.Sum.{same}
use Rattle.theory.specs.Numbers.Bits.{in_joined}
use Rattle.theory.specs.Numbers.Search.{Before, longer}

-- One of the first e edges leads from i to j.
abbrev Led : List ℕ → ℕ → ℕ → ℕ → Type 0
Led edges i j e = Before (λ d. (from edges d ≡ i) × (to edges d ≡ j)) e

-- The targets of the first e edges are seen from their sources, and no others.
pub record Seen (edges seen : List ℕ) (e : ℕ) : Type 0 where
  pub size : length seen ≡ most_states
  pub is : (i j : ℕ) → i < most_states → (bit (get_or seen i 0) j ≡ 1) ↔ Led edges i j e

module _ (edges : List ℕ) where
  pub none : Seen edges (replicate most_states 0) 0
  none =
      record {
        size = length-replicate {A = ℕ} most_states 0;
        is = λ i j h.
            rw (get_or-replicate {A = ℕ} most_states i 0 0 h, zero-div (2 ^ j)) (λ b. absurd (omega arith), λ w. absurd (omega (arith, w.1.0)));
      }

  module _ (seen : List ℕ) (e : ℕ) (s : Seen edges seen e) (i j : ℕ) (p : i ≡ from edges e) (q : j ≡ to edges e) (h : i < most_states) where
    pub stood : e < edge_count edges → bit (get_or seen i 0) j ≡ 1 → PairFault edges e
    stood l b = let w = (s.is i j h).0 b in (l, (w.0, (w.1.0, (w.1.1.0 ∙ p, w.1.1.1 ∙ q))))

    pub fresh : (bit (get_or seen i 0) j ≡ 1 → ⊥) → PairFault edges e → ⊥
    fresh not bad =
        let w = bad.1 in
        not ((s.is i j h).1 (w.0, (w.1.0, (w.1.1.0 ∙ sym p, w.1.1.1 ∙ sym q))))

    -- One edge more: what it leads to is seen too.
    further : (k t : ℕ) → Led edges k t (e + 1) ↔ (Led edges k t e ⊎ ((i ≡ k) × (t ≡ j)))
    further k t =
        let w = longer (λ d. (from edges d ≡ k) × (to edges d ≡ t)) e in (
          λ l. ⊎_elim inl (λ (o : (from edges e ≡ k) × (to edges e ≡ t)). inr (p ∙ o.0, sym (q ∙ o.1))) (w.0 l),
          λ o. w.1 (⊎_elim inl (λ (n : (i ≡ k) × (t ≡ j)). inr (sym p ∙ n.0, sym (n.1 ∙ q))) o),
        )

    -- In the table with j seen from i there is what was seen, and j from i.
    joined : (k t : ℕ) → k < most_states
        → (bit (get_or (set seen i (bit_or (get_or seen i 0) (2 ^ j))) k 0) t ≡ 1) ↔ ((bit (get_or seen k 0) t ≡ 1) ⊎ ((i ≡ k) × (t ≡ j)))
    joined k t l = go (same i k)
      where
        larger : ℕ
        larger = bit_or (get_or seen i 0) (2 ^ j)

        go : (i ≡ k) ⊎ (i ≡ k → ⊥) → (bit (get_or (set seen i larger) k 0) t ≡ 1) ↔ ((bit (get_or seen k 0) t ≡ 1) ⊎ ((i ≡ k) × (t ≡ j)))
        go (inl y) =
            subst
            (λ k. (bit (get_or (set seen i larger) k 0) t ≡ 1) ↔ ((bit (get_or seen k 0) t ≡ 1) ⊎ ((i ≡ k) × (t ≡ j))))
            y
            (rw (get_or-set_same seen i larger 0 (omega (arith, s.size))) (
              λ b. ⊎_elim inl (λ (o : t ≡ j). inr (refl, o)) ((in_joined (get_or seen i 0) j t).0 b),
              λ w. (in_joined (get_or seen i 0) j t).1 (⊎_elim inl (λ (o : (i ≡ i) × (t ≡ j)). inr o.1) w),
            ))
        go (inr n) =
            rw (get_or-set_other seen i k larger 0 (λ z. n (sym z)))
            (λ b. inl b, λ w. ⊎_elim (λ (o : bit (get_or seen k 0) t ≡ 1). o) (λ (o : (i ≡ k) × (t ≡ j)). absurd (n o.0)) w)

    pub more : Seen edges (set seen i (bit_or (get_or seen i 0) (2 ^ j))) (e + 1)
    more =
        record {
          size = length-set seen i _ ∙ s.size;
          is = λ k t l. (
            λ b.
                (further k t).1
                (⊎_elim (λ (o : bit (get_or seen k 0) t ≡ 1). inl ((s.is k t l).0 o)) (λ (n : (i ≡ k) × (t ≡ j)). inr n) ((joined k t l).0 b)),
            λ w.
                (joined k t l).1
                (⊎_elim (λ (o : Led edges k t e). inl ((s.is k t l).1 o)) (λ (n : (i ≡ k) × (t ≡ j)). inr n) ((further k t).0 w)),
          );
        }
