-- What is in the sets of a chain.
use Prim.Native.Nat.{ℕ, ◌%◌, ◌^◌, ◌<◌}
use mathlib.Core.Path.{◌≡◌, refl, sym, ap, subst, ◌∙◌}
use mathlib.Core.Logic.Iff
use mathlib.Core.Logic.{⊎_elim}
use mathlib.Core.Bool.{Bool, true, false, not}
use mathlib.Core.List.{List}
use native.Mathlib.Omega.{arith}
use native.Mathlib.Nat.{zero-div, mod-eq_of_lt}
use lib.Bits.{bit_and, bit_xor}
use lib.Dec.{eqb}
use borrow.Author.Tests.{eqb-true, eqb-false}
use Rattle.meaning.specs.Number.{bit}
use Rattle.meaning.specs.Chain.{most_states, Chain, End, PathTo, FromStart, LiveTo}
use Rattle.meaning.specs.Step.{RightTo}
use Rattle.meaning.specs.Survey.{Misses}
use Rattle.theory.specs.Numbers.Bits.{in_both, in_first, in_one, set_apart}
use Rattle.theory.specs.Numbers.Sum.{same}
use Rattle.meaning.specs.Number.{decides}
use Rattle.survey.specs.Grow.{Open, way, Grown, sown, joined}
use Rattle.survey.specs.Sets.{Exactly, Alive, Astray}
use Rattle.survey.proofs.Growth.{alike}

-- The states with a path to an end grow from the ends, backwards and with no barrier.
module _ (edges : List ℕ) (End : ℕ → Type 0) (ends : ℕ) (are : Exactly End ends) where
  to_end : {i : ℕ} → Grown (way true 0 edges) ends i → PathTo edges End i
  to_end {i} (sown g) = PathTo.here i ((are i).0 g)
  to_end (joined e h g n) = PathTo.step e h (to_end g)

  from_end : {i : ℕ} → PathTo edges End i → Grown (way true 0 edges) ends i
  from_end (PathTo.here i g) = sown ((are i).1 g)
  from_end (PathTo.step e h p) = joined e h (from_end p) (λ b. absurd (omega (arith, rw zero-div at b)))

  pub end_grown : (set : ℕ) → Exactly (Grown (way true 0 edges) ends) set → Exactly (PathTo edges End) set
  end_grown set f i = Iff.trans (f i) (to_end, from_end)

module _ (c : Chain) where
  -- The states that are reached grow from the start, up to the goals.
  from_start : {i : ℕ} → Grown (way false c.goals c.edges) (2 ^ c.start) i → FromStart c i
  from_start {i} (sown b) = subst (FromStart c) (sym ((in_one c.start i).0 b)) FromStart.begin
  from_start (joined e h g n) = FromStart.step e h (from_start g) n

  to_start : {i : ℕ} → FromStart c i → Grown (way false c.goals c.edges) (2 ^ c.start) i
  to_start FromStart.begin = sown ((in_one c.start c.start).1 refl)
  to_start (FromStart.step e h p n) = joined e h (to_start p) n

  pub start_grown : (set : ℕ) → Exactly (Grown (way false c.goals c.edges) (2 ^ c.start)) set → Exactly (FromStart c) set
  start_grown set f i = Iff.trans (f i) (from_start, to_start)

-- The set of one state.
pub one : {i r : ℕ} → r ≡ 2 ^ (i % most_states) → i < most_states → r ≡ 2 ^ i
one {i} e h = e ∙ ap (λ k. 2 ^ k) (mod-eq_of_lt h)

-- A state is open where it is in what is left of the set once the barrier is taken out.
pub open_set : (barrier set i : ℕ) → decides (Open barrier set i) (not (eqb (bit_and (bit_xor set (bit_and set barrier)) (2 ^ i)) 0))
open_set barrier set i = go (eqb there 0) refl
  where
    left : ℕ
    left = bit_xor set (bit_and set barrier)

    there : ℕ
    there = bit_and left (2 ^ i)

    go : (t : Bool) → eqb there 0 ≡ t → decides (Open barrier set i) (not t)
    go true e = λ o.
        let b = (in_both left (2 ^ i) i).1 ((in_first set barrier i).1 (o.inside, o.free), (in_one i i).1 refl) in
        omega (arith, rw (eqb-true there 0 e, zero-div) at b)
    go false e =
        let w = set_apart there 0 (eqb-false there 0 e) in
        let b : bit there w.0 ≡ 1 = omega (arith, w.1, zero-div (2 ^ w.0)) in
        let p = (in_both left (2 ^ i) w.0).0 b in
        let q = (in_first set barrier i).0 (subst (λ j. bit left j ≡ 1) ((in_one i w.0).0 p.1) p.0) in
        record { inside = q.0; free = q.1 }

module _ (good reached : ℕ) where
  pub alive_set : (goals : ℕ) → Exactly (Alive good reached goals) (bit_xor (bit_and good reached) (bit_and (bit_and good reached) goals))
  alive_set goals i = (
    λ b.
        let p = (in_first (bit_and good reached) goals i).0 b in
        let q = (in_both good reached i).0 p.0 in
        record { leads = q.0; comes = q.1; unwon = p.1 },
    λ a. (in_first (bit_and good reached) goals i).1 ((in_both good reached i).1 (a.leads, a.comes), a.unwon),
  )

  pub astray_set : decides (Astray good reached) (not (eqb (bit_and good reached) reached))
  astray_set = go (eqb (bit_and good reached) reached) refl
    where
      go : (t : Bool) → eqb (bit_and good reached) reached ≡ t → decides (Astray good reached) (not t)
      go true e = λ w.
          let q = eqb-true (bit_and good reached) reached e in
          w.2 ((in_both good reached w.0).0 (subst (λ z. bit z w.0 ≡ 1) (sym q) w.1)).0
      go false e =
          let w = set_apart (bit_and good reached) reached (eqb-false (bit_and good reached) reached e) in
          let i = w.0 in
          ⊎_elim
          (λ (b : bit reached i ≡ 1).
          (i, b, λ g. w.1 ((in_both good reached i).1 (g, b) ∙ sym b)))
          (λ (n : bit reached i ≡ 1 → ⊥).
          absurd (w.1 (let m : bit (bit_and good reached) i ≡ 1 → ⊥ = λ b. n ((in_both good reached i).0 b).1 in omega arith)))
          (same (bit reached i) 1)

-- What is known of the good, the reached and the live states together.
module _ (c : Chain) (short : Bool) (good reached : ℕ) (G : Exactly (PathTo c.edges (End short c)) good) (R : Exactly (FromStart c) reached) where
  pub sets_right : (live : ℕ) → Exactly (Alive good reached c.goals) live → RightTo c (End short c) (record { good = good; live = live })
  sets_right live A = record { good = G; live = λ i. Iff.trans (A i) (lives, alive) }
    where
      lives : {i : ℕ} → Alive good reached c.goals i → LiveTo c (End short c) i
      lives {i} a = record { unwon = a.unwon; reached = (R i).0 a.comes; leads = (G i).0 a.leads }

      alive : {i : ℕ} → LiveTo c (End short c) i → Alive good reached c.goals i
      alive {i} l = record { leads = (G i).1 l.leads; comes = (R i).1 l.reached; unwon = l.unwon }

  pub sets_missed : (b : Bool) → decides (Astray good reached) b → decides (Misses short c) b
  sets_missed b =
      alike b
      (λ w. (w.0, (R w.0).0 w.1, λ g. w.2 ((G w.0).1 g)))
      (λ w. (w.0, (R w.0).1 w.1, λ g. w.2 ((G w.0).0 g)))
