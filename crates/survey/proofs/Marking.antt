-- The ends of paths, marked state by state.
use Prim.Native.Nat.{ℕ, ◌+◌, ◌^◌, ◌≤◌, ◌<◌}
use mathlib.Core.Path.{◌≡◌, sym, subst}
use mathlib.Core.Logic.{◌⊎◌, inl, inr, ⊎_elim}
use mathlib.Core.Bool.{true}
use mathlib.Core.List.{List}
use native.Mathlib.Omega.{arith}
use lib.Bits.{bit_or}
use lib.ListN.{length, get_or, get_or-eq_default}
use Rattle.meaning.specs.Number.{bit}
use Rattle.meaning.specs.Chain.{most_states, Chain, denominator, missing, End}
use Rattle.theory.specs.Numbers.Bits.{in_either, in_one}
use Rattle.theory.specs.Numbers.Sum.{below}
use Rattle.look.specs.Sums.{Lacks}
use Rattle.survey.specs.Sets.{Exactly, Marked, MarkedTo}

pub marked_one : (set i missing one : ℕ) → one ≡ 2 ^ i → (missing ≡ 0 → ⊥) → Marked set i missing (bit_or set one)
marked_one set i missing one e some = rw e (record { is = λ k. (λ b. there k ((in_either set (2 ^ i) k).0 b), λ m. (in_either set (2 ^ i) k).1 (back k m)) })
  where
    there : (k : ℕ) → (bit set k ≡ 1) ⊎ (bit (2 ^ i) k ≡ 1) → (bit set k ≡ 1) ⊎ ((k ≡ i) × (0 < missing))
    there k (inl b) = inl b
    there k (inr b) = inr ((in_one i k).0 b, omega arith)

    back : (k : ℕ) → (bit set k ≡ 1) ⊎ ((k ≡ i) × (0 < missing)) → (bit set k ≡ 1) ⊎ (bit (2 ^ i) k ≡ 1)
    back k (inl b) = inl b
    back k (inr h) = inr ((in_one i k).1 h.0)

module _ (set : ℕ) (missing : List ℕ) where
  pub marking_none : Exactly (MarkedTo set missing 0) set
  marking_none k = (inl, out)
    where
      out : MarkedTo set missing 0 k → bit set k ≡ 1
      out (inl b) = b
      out (inr h) = absurd (omega (arith, h.0))

  pub marking_more : {marks i r : ℕ} → Exactly (MarkedTo set missing i) marks → Marked marks i (get_or missing i 0) r → Exactly (MarkedTo set missing (i + 1)) r
  marking_more {marks} {i} {r} f m k = (λ b. there ((m.is k).0 b), λ t. (m.is k).1 (back t))
    where
      there : (bit marks k ≡ 1) ⊎ ((k ≡ i) × (0 < get_or missing i 0)) → MarkedTo set missing (i + 1) k
      there (inl b) = further ((f k).0 b)
        where
          further : MarkedTo set missing i k → MarkedTo set missing (i + 1) k
          further (inl b) = inl b
          further (inr h) = inr (omega (arith, h.0), h.1)
      there (inr h) = inr (omega (arith, h.0), subst (λ z. 0 < get_or missing z 0) (sym h.0) h.1)

      back : MarkedTo set missing (i + 1) k → (bit marks k ≡ 1) ⊎ ((k ≡ i) × (0 < get_or missing i 0))
      back (inl b) = inl ((f k).1 (inl b))
      back (inr h) =
          ⊎_elim
          (λ (l : k < i). inl ((f k).1 (inr (l, h.1))))
          (λ (l : i ≤ k). let e : k ≡ i = omega (arith, h.0) in inr (e, subst (λ z. 0 < get_or missing z 0) e h.1))
          (below k i)

-- The marks are the ends where rows may fall short.
pub marked_ends : (c : Chain) (few : c.states ≤ most_states) (whole : length c.denominators ≡ c.states) (lacking : List ℕ) → Lacks c.denominators c.edges lacking
    → (ends : ℕ) → Exactly (MarkedTo c.goals lacking most_states) ends → Exactly (End true c) ends
marked_ends c few whole lacking lacks ends marks k = (λ b. there ((marks k).0 b), λ e. (marks k).1 (back e))
  where
    is : k < most_states → get_or lacking k 0 ≡ missing c k
    is h = lacks.is k h

    state : (k : ℕ) → 0 < missing c k → k < c.states
    state k h =
        ⊎_elim
        (λ (m : k < c.states). m)
        (λ (m : c.states ≤ k).
        let z : denominator c k ≡ 0 = get_or-eq_default c.denominators 0 (omega arith) in
        absurd (omega (arith, h, z)))
        (below k c.states)

    there : MarkedTo c.goals lacking most_states k → End true c k
    there (inl b) = inl b
    there (inr h) = inr (omega (arith, is h.0, h.1))

    back : End true c k → MarkedTo c.goals lacking most_states k
    back (inl b) = inl b
    back (inr h) = let m : k < most_states = omega (arith, state k h) in inr (m, omega (arith, is m, h))
