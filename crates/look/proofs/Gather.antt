-- What the edges bring to the state that they leave, summed for all states, edge by edge.
use Prim.Native.Nat.{ℕ, ◌+◌, ◌*◌, ◌≤◌, ◌<◌}
use mathlib.Core.Path.{◌≡◌, sym, ap, ◌∙◌}
use mathlib.Core.Logic.{⊎_elim, inr}
use mathlib.Core.List.{List}
use native.Mathlib.Numerals.{add-one}
use native.Mathlib.Omega.{arith}
use lib.Dec.{eqb}
use lib.ListN.{length, get_or, set, replicate, length-set, length-replicate, get_or-replicate}
use lib.Seq.{get_or-set_same, get_or-set_other}
use borrow.Author.Tests.{eq-eqb, ne_eqb}
use Rattle.meaning.specs.Number.{sum_to, only}
use Rattle.meaning.specs.Chain.{most_states, M, edge_count, from, weight}
use Rattle.meaning.specs.Refusal.{WeightFault}
use Rattle.theory.specs.Numbers.Sum.{same, sum_next}

-- What edge e brings to i, where an edge brings what worth says, to the state that it leaves.
abbrev pub brought : List ℕ → (ℕ → ℕ) → ℕ → ℕ → ℕ
brought edges worth i e = only (eqb (from edges e) i) (worth e)

-- The first e edges are gathered, each of which brings at most so much.
pub record Summed (edges : List ℕ) (worth : ℕ → ℕ) (each : ℕ) (sums : List ℕ) (e : ℕ) : Type 0 where
  pub past : e ≤ edge_count edges
  pub size : length sums ≡ most_states
  pub is : (i : ℕ) → i < most_states → get_or sums i 0 ≡ sum_to (brought edges worth i) e
  pub most : (i : ℕ) → i < most_states → get_or sums i 0 ≤ each * e

module _ (edges : List ℕ) (worth : ℕ → ℕ) (each : ℕ) where
  pub none : Summed edges worth each (replicate most_states 0) 0
  unfolding sum_to
  none =
      record {
        past = omega arith;
        size = length-replicate {A = ℕ} most_states 0;
        is = λ i h. get_or-replicate {A = ℕ} most_states i 0 0 h;
        most = λ i h. omega (arith, get_or-replicate {A = ℕ} most_states i 0 0 h);
      }

  pub all : {sums : List ℕ} {e : ℕ} → Summed edges worth each sums e → edge_count edges ≤ e → (i : ℕ) → i < most_states
      → get_or sums i 0 ≡ sum_to (brought edges worth i) (edge_count edges)
  all {e = e} g l i h = let z : e ≡ edge_count edges = omega (arith, g.past) in g.is i h ∙ ap (sum_to (brought edges worth i)) z

  leaves : (i e : ℕ) → from edges e ≡ i → brought edges worth i e ≡ worth e
  leaves i e h = rw (eq-eqb (from edges e) i h)

  stays : (i e : ℕ) → (from edges e ≡ i → ⊥) → brought edges worth i e ≡ 0
  stays i e h = rw (ne_eqb (from edges e) i h)

  module _ (e : ℕ) (h : e < edge_count edges) (small : worth e ≤ each) (sums : List ℕ) (g : Summed edges worth each sums e) where
    pub more : (s w : ℕ) → s ≡ from edges e → w ≡ worth e → Summed edges worth each (set sums s (get_or sums s 0 + w)) (e + 1)
    more s w p q =
        record {
          past = omega arith;
          size = length-set sums s _ ∙ g.size;
          is = λ i l. added i l ∙ sym (sum_next (brought edges worth i) e (e + 1) (add-one e));
          most = λ i l.
              omega (arith, added i l, g.is i l, g.most i l, brought_small i);
        }
      where
        brought_small : (i : ℕ) → brought edges worth i e ≤ each
        brought_small i =
            ⊎_elim
            (λ (y : from edges e ≡ i). omega (arith, leaves i e y, small))
            (λ (d : from edges e ≡ i → ⊥). omega (arith, stays i e d))
            (same (from edges e) i)

        added : (i : ℕ) → i < most_states
            → get_or (set sums s (get_or sums s 0 + w)) i 0 ≡ sum_to (brought edges worth i) e + brought edges worth i e
        added i l =
            ⊎_elim
            (λ (y : from edges e ≡ i).
            rw (p ∙ y) (get_or-set_same sums i (get_or sums i 0 + w) 0 (omega (arith, g.size)) ∙ omega (arith, g.is i l, leaves i e y)))
            (λ (d : from edges e ≡ i → ⊥).
            get_or-set_other sums s i (get_or sums s 0 + w) 0 (λ z. d (sym p ∙ sym z)) ∙ omega (arith, g.is i l, stays i e d))
            (same (from edges e) i)

pub weight_small : (edges : List ℕ) → ((k : ℕ) → WeightFault edges k → ⊥) → (e : ℕ) → e < edge_count edges → weight edges e ≤ M
weight_small edges weights e h = let out : M < weight edges e → ⊥ = λ l. weights e (h, inr l) in omega arith
