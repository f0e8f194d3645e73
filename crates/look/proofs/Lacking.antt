-- What is missing from each row, edge by edge.
use Prim.Native.Nat.{ℕ, ◌+◌, ◌-◌, ◌≤◌, ◌<◌}
use mathlib.Core.Path.{◌≡◌, refl, sym, ◌∙◌}
use mathlib.Core.List.{List, []}
use mathlib.Core.Logic.{⊎_elim}
use native.Mathlib.Omega.{arith}
use native.Mathlib.Numerals.{add-one}
use lib.ListN.{length, get_or}
use borrow.Author.Tests.{eq-eqb, ne_eqb}
use Rattle.meaning.specs.Number.{sum_to}
use Rattle.meaning.specs.Chain.{most_states, edge_count, from, weight, carried, flow, row_sum}
use Rattle.theory.specs.Numbers.Sum.{same, sum_next}
use Rattle.look.specs.Sums.{Lacks, TakenOut}

-- A copy of the denominators lacks what rows of no edge lack.
pub lacks_none : (denominators r : List ℕ) → length r ≡ most_states → ((i : ℕ) → i < most_states → get_or r i 0 ≡ get_or denominators i 0)
    → Lacks denominators [] r
unfolding flow sum_to
lacks_none denominators r size is =
    record { size = size; is = λ i l. let z : row_sum [] i ≡ 0 = refl in omega (arith, z, is i l) }

-- The weights of the first e edges are taken out.
pub record Lacking (denominators edges r : List ℕ) (e : ℕ) : Type 0 where
  pub size : length r ≡ most_states
  pub past : e ≤ edge_count edges
  pub is : (i : ℕ) → i < most_states → get_or r i 0 ≡ get_or denominators i 0 - sum_to (carried edges i (λ _. 1)) e

module _ (denominators edges : List ℕ) where
  pub lacking_none : {r : List ℕ} → Lacks denominators [] r → Lacking denominators edges r 0
  unfolding flow sum_to
  lacking_none f =
      record { size = f.size; past = omega arith; is = λ i l. let z : row_sum [] i ≡ 0 = refl in omega (arith, z, f.is i l) }

  pub lacking_all : {r : List ℕ} {e : ℕ} → Lacking denominators edges r e → edge_count edges ≤ e → Lacks denominators edges r
  unfolding flow
  lacking_all {e = e} f h =
      let z : e ≡ edge_count edges = omega (arith, f.past) in
      record { size = f.size; is = λ i l. f.is i l ∙ rw z }

  module _ (e : ℕ) where
    leaves : (i : ℕ) → from edges e ≡ i → carried edges i (λ _. 1) e ≡ weight edges e
    unfolding carried
    leaves i h = rw (eq-eqb (from edges e) i h) (omega arith)

    stays : (i : ℕ) → (from edges e ≡ i → ⊥) → carried edges i (λ _. 1) e ≡ 0
    unfolding carried
    stays i h = rw (ne_eqb (from edges e) i h)

    pub lacking_more : {r v : List ℕ} {s w : ℕ} → Lacking denominators edges r e → e < edge_count edges → s ≡ from edges e → w ≡ weight edges e
        → TakenOut r s w v → Lacking denominators edges v (e + 1)
    lacking_more {r} {v} {s} {w} f h p q t =
        record {
          size = t.size ∙ f.size;
          past = omega arith;
          is = λ i l.
              let next = sum_next (carried edges i (λ _. 1)) e (e + 1) (add-one e) in
              ⊎_elim
              (λ (y : from edges e ≡ i).
              let z : i ≡ s = sym (p ∙ y) in
              let here : get_or v i 0 ≡ get_or r i 0 - w = rw z (t.here (omega (arith, f.size))) in
              omega (arith, here, f.is i l, next, leaves i y))
              (λ (d : from edges e ≡ i → ⊥).
              omega (arith, t.other i (λ z. d (sym (z ∙ p))), f.is i l, next, stays i d))
              (same (from edges e) i);
        }
