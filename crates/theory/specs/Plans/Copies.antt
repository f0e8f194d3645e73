-- The planner's answer is one; and one copy with loss 1 and finish 3 is 1/4, whatever the rebuild.
use Rattle.std.specs.Prelude.{ℕ, zero, suc, ◌≤◌, ◌<◌, ◌≡◌, refl, List}
use Rattle.std.proofs.Common.{sym, ap₂, ◌∙◌, inl, inr, arith}
use mathlib.Core.List.Memᴰ
use Rattle.meaning.specs.Refusal.{Beyond, Lent, plain, WellFormed}
use Rattle.meaning.specs.Outcome.{cleared, Answer, refusal, fraction, ChanceOutcome}
use Rattle.meaning.specs.Copies.{Plan, plan_of, most_copies, most_weight, CopiesLarge, PlaceFault, Sensible, each, copies_edges, copies_lent, PlanRefused, copies_wrong, weight_wrong, CopiesOutcome, refused, large, planned}
use Rattle.meaning.specs.Cases.{Case, one_copy}
use Rattle.theory.specs.Outcomes.Determined.{meet}
use Rattle.theory.specs.Outcomes.Formed.{formed_fine}
use Rattle.theory.specs.Outcomes.DemandTwo.{chance_is, chance_refuses}
use Rattle.theory.specs.Files.Listed.{cases_hold}
use Rattle.theory.specs.Figures.Unique.{chance_one}
use Rattle.theory.specs.Plans.Formed.{copies_plain}

-- A plan that is refused is not sensible, and its number and place are one.
pub refused_senseless : {j : Plan} {number place : ℕ} → PlanRefused j number place → Sensible j → ⊥
refused_senseless (copies_wrong f) s = s.copies f
refused_senseless (weight_wrong g p f b) s = s.weights p f

pub refused_one : {j : Plan} {number place number' place' : ℕ} → PlanRefused j number place → PlanRefused j number' place'
    → (number ≡ number') × (place ≡ place')
refused_one (copies_wrong f) (copies_wrong f') = (refl, refl)
refused_one (copies_wrong f) (weight_wrong g' p' f' b') = absurd (g' f)
refused_one (weight_wrong g p f b) (copies_wrong f') = absurd (g f')
refused_one (weight_wrong g p f b) (weight_wrong g' p' f' b') = (refl, meet p p' (λ h. b' p h f) (λ h. b p' h f'))

-- What is answered for one plan is one answer.
pub copies_one : {j : Plan} {a a' : Answer} → CopiesOutcome j a → CopiesOutcome j a' → a ≡ a'
copies_one (refused n p f e) (refused n' p' f' e') = let (x, y) = refused_one f f' in e ∙ ap₂ refusal x y ∙ sym e'
copies_one (refused n p f e) (large s' n' e') = absurd (refused_senseless f s')
copies_one (refused n p f e) (planned s' n' p' q' h' e') = absurd (refused_senseless f s')
copies_one (large s n e) (refused n' p' f' e') = absurd (refused_senseless f' s)
copies_one (large s n e) (large s' n' e') = e ∙ sym e'
copies_one (large s n e) (planned s' n' p' q' h' e') = absurd (n' n)
copies_one (planned s n p q h e) (refused n' p' f' e') = absurd (refused_senseless f' s)
copies_one (planned s n p q h e) (large s' n' e') = absurd (n n')
copies_one {j} (planned s n p q h e) (planned s' n' p' q' h' e') =
    let o = chance_one (formed_fine plain (copies_lent j) (copies_plain s) refl) h h' in
    e ∙ ap₂ fraction o.0 o.1 ∙ sym e'

-- One copy, loss 1 and finish 3.
module _ (rebuild : ℕ) (right : Beyond most_weight rebuild → ⊥) where
  abbrev single : Plan
  single = plan_of 1 1 rebuild 3

  sensible : Sensible single
  sensible = record { copies = λ f. out 1 most_copies (omega arith) (omega arith) f; weights = wrong }
    where
      out : (x limit : ℕ) → 0 < x → x ≤ limit → Beyond limit x → ⊥
      out x limit h k (inl e) = omega arith
      out x limit h k (inr e) = omega arith

      wrong : (p : ℕ) → PlaceFault single p → ⊥
      wrong zero f = out 1 most_weight (omega arith) (omega arith) f.1
      wrong (suc zero) f = right f.1
      wrong (suc (suc zero)) f = out 3 most_weight (omega arith) (omega arith) f.1
      wrong (suc (suc (suc p))) f = omega (arith, f.0)

  quarter : ChanceOutcome (copies_lent single) (fraction 1 4) (cleared (copies_lent single))
  unfolding each copies_edges
  quarter = cases_hold (Case.chance one_copy (fraction 1 4) (cleared one_copy)) (Memᴰ.head refl)

  pub copies_quarter : {a : Answer} → CopiesOutcome single a → a ≡ fraction 1 4
  copies_quarter o =
      let l : Lent = copies_lent single in
      let w : List ℕ = cleared l in
      let formed : WellFormed plain l = copies_plain sensible in
      let none : CopiesLarge single → ⊥ =
      λ f. let t : ◌≡◌ {A = ℕ} 0 12 = (chance_refuses l formed (fraction 1 4) w quarter).1 f in omega arith in
      copies_one o (planned sensible none 1 4 (chance_is l formed (fraction 1 4) w quarter refl) refl)
