-- What a survey finds, and that its answer is one.
use Prim.Native.Nat.{ℕ, ◌<◌}
use mathlib.Core.Path.{◌≡◌, refl, sym, ap, subst}
use mathlib.Core.Bool.{Bool, true, false}
use mathlib.Core.Logic.Iff
use mathlib.Core.Logic.{◌↔◌, inl, inr}
use native.Mathlib.Omega.{arith}
use lib.Count.{ones}
use Rattle.meaning.specs.Number.{bit}
use Rattle.meaning.specs.Chain.{most_states, Chain, Goal, End, FromStart, LiveTo}
use Rattle.meaning.specs.Refusal.{Lent, bare_of, EndFault, Applies, Refused, WellFormed}
use Rattle.meaning.specs.Survey.{SurveyOutcome, refused, surveyed}
use Rattle.theory.specs.Outcomes.Formed.{few_states, goals_in_lem, start_in, from_in_lem, to_in_lem}
use Rattle.theory.specs.Numbers.Bits.{set_below}
use Rattle.theory.specs.Chains.Counted.{count_ones}
use Rattle.theory.specs.Outcomes.Surveyed.{goals_some, survey_one}
use Rattle.meaning.specs.Number.{decides}
use Rattle.survey.specs.Sets.{sets_of, Known}
use Rattle.survey.specs.Told.{told}
use Rattle.survey.specs.declared.Sets.{Sets as Found}
use Rattle.survey.specs.declared.Survey.{Survey}
use Rattle.std.proofs.Common.{Result, Ok, Err}
use Rattle.chain.specs.declared.refusal.Refusal.{Refusal}
use Rattle.chain.specs.Refusal.{number_of}
use Rattle.chain.proofs.Faults.{one_refusal}

-- A test as its answer.
answers : {P : Type 0} (b : Bool) → decides P b → (b ≡ true) ↔ P
answers true d = (λ e. d, λ p. refl)
answers false d = (λ e. absurd (let z : ◌≡◌ {A = ℕ} 0 1 = cc in omega arith), λ p. absurd (d p))

module _ (short : Bool) (l : Lent) (formed : WellFormed (bare_of short) l) where
  abbrev c : Chain
  c = l.chain

  -- What the sets ask for.
  pub start_fits : c.start < most_states
  start_fits = omega (arith, start_in (bare_of short) l formed, few_states (bare_of short) l formed)

  pub ends_fit : (e : ℕ) → EndFault most_states c.edges e → ⊥
  ends_fit e (h, inl k) = omega (arith, from_in_lem (bare_of short) l formed e h, few_states (bare_of short) l formed)
  ends_fit e (h, inr k) = omega (arith, to_in_lem (bare_of short) l formed e h, few_states (bare_of short) l formed)

  pub counted : (s : Found) → Known short c s → SurveyOutcome short l (told (Ok (record { sets = s; goals = ones c.goals; live = ones s.live })))
  counted s known =
      let live = s.live in
      surveyed formed (sets_of s) known.right s.missed (answers s.missed known.missed) (ones c.goals) (ones live)
      (count_ones (Goal c) c.goals (λ i. Iff.rfl) c.states (goals_in_lem (bare_of short) l formed))
      (count_ones (LiveTo c (End short c)) live known.right.live c.states (set_below c.states live inside))
      refl
    where
      inside_from : {i : ℕ} → FromStart c i → i < c.states
      inside_from FromStart.begin = start_in (bare_of short) l formed
      inside_from (FromStart.step e h f n) = to_in_lem (bare_of short) l formed e h

      inside : (i : ℕ) → bit s.live i ≡ 1 → i < c.states
      inside i b = inside_from ((known.right.live i).0 b).reached

-- What a layer above knows of a survey.
decided : {P : Type 0} (b : Bool) → (b ≡ true) ↔ P → decides P b
decided true t = t.0 refl
decided false t = λ p. let e = t.1 p in let z : ◌≡◌ {A = ℕ} 0 1 = cc in omega arith

module _ (short : Bool) (l : Lent) {a : Result Survey Refusal} (o : SurveyOutcome short l (told a)) where
  pub refusing : {r : Refusal} → a ≡ Err r → Refused (bare_of short) l (number_of r.fault) r.place
  refusing {r} q =
      elim (subst (λ (a : Result Survey Refusal). SurveyOutcome short l (told a)) q o) [
        | refused n p z e ↦
            let a : number_of r.fault ≡ n = ap (λ s. s.number) e in let b : r.place ≡ p = ap (λ s. s.place) e in rw (a, b) z
        | surveyed w k t m d g j a b e ↦ absurd (omega (arith, goals_some (bare_of short) l w g a, ap (λ s. s.goals) e))
      ]

  pub found : {s : Survey} → a ≡ Ok s → WellFormed (bare_of short) l × Known short l.chain s.sets
  found {s} q =
      elim (subst (λ (a : Result Survey Refusal). SurveyOutcome short l (told a)) q o) [
        | refused n p z e ↦
            let a : 0 ≡ n = ap (λ s. s.number) e in absurd (subst (λ k. Applies (bare_of short) l k p) (sym a) z.applies)
        | surveyed w k t m d g j a b e ↦
            let u : sets_of s.sets ≡ k = ap (λ s. s.sets) e in
            let v : s.sets.missed ≡ m = ap (λ s. s.missed) e in
            (w, record { right = rw u t; missed = rw v (decided m d) })
      ]

-- A survey and a refusal have no numbers in common.
apart : (short : Bool) (l : Lent) (s : Survey) (r : Refusal) → SurveyOutcome short l (told (Ok s)) → told (Ok s) ≡ told (Err r) → ⊥
apart short l s r (refused k p z e) q =
    let z' : k ≡ 0 = ap (λ s. s.number) (sym e) in
    subst (λ k. Applies (bare_of short) l k p) z' z.applies
apart short l s r (surveyed w k t m d g j a b e) q =
    omega (arith, goals_some (bare_of short) l w g a, ap (λ s. s.goals) e, ap (λ s. s.goals) q)

-- Two surveys that are promised of one input are the same.
pub survey_unique : (short : Bool) (l : Lent) (a b : Result Survey Refusal) → SurveyOutcome short l (told a) → SurveyOutcome short l (told b) → a ≡ b
survey_unique short l (Ok s) (Ok t) o o' =
    let e = survey_one o o' in
    λ i. Ok (record {
      sets = record { good = ap (λ s. s.sets.good) e i; live = ap (λ s. s.sets.live) e i; missed = ap (λ s. s.missed) e i };
      goals = ap (λ s. s.goals) e i;
      live = ap (λ s. s.live) e i;
    })
survey_unique short l (Ok s) (Err r) o o' = absurd (apart short l s r o (survey_one o o'))
survey_unique short l (Err r) (Ok s) o o' = absurd (apart short l s r o' (survey_one o' o))
survey_unique short l (Err r) (Err s) o o' =
    let e = survey_one o o' in ap (λ r. Err r) (one_refusal r s (ap (λ s. s.number) e) (ap (λ s. s.place) e))
