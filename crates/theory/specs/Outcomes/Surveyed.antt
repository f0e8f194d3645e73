-- The survey of a chain is one, and finds a goal.
use Rattle.std.specs.Prelude.{ℕ, ◌^◌, ◌<◌, ◌≡◌, refl, ◌↔◌, Bool, true, false}
use Rattle.std.proofs.Common.{sym, ap₂, ◌∙◌, arith}
use Rattle.std.proofs.Math.Nat.{zero-div}
use Rattle.meaning.specs.Number.{bit}
use Rattle.meaning.specs.Chain.{Goal}
use Rattle.meaning.specs.Step.{Sets}
use Rattle.meaning.specs.Refusal.{Lent, Entry, WellFormed}
use Rattle.meaning.specs.Survey.{Count, Survey, no_survey, surveys, SurveyOutcome, refused, surveyed}
use Rattle.theory.specs.Chains.Sets.{right_one}
use Rattle.theory.specs.Numbers.Bits.{bit_below, set_apart}
use Rattle.theory.specs.Outcomes.Formed.{some_goal, goals_in_lem}
use Rattle.theory.specs.Outcomes.Determined.{refused_one}
use Rattle.theory.specs.Chains.Counted.{count_one, count_some}

-- A test of one thing has one answer.
test_one : {P : Type 0} (b b' : Bool) → (b ≡ true) ↔ P → (b' ≡ true) ↔ P → b ≡ b'
test_one true b' t t' = sym (t'.1 (t.0 refl))
test_one false true t t' = t.1 (t'.0 refl)
test_one false false t t' = refl

pub survey_one : {short : Bool} {l : Lent} {a a' : Survey} → SurveyOutcome short l a → SurveyOutcome short l a' → a ≡ a'
survey_one (refused n p r e) (refused n' p' r' e') = let o = refused_one r r' in e ∙ ap₂ no_survey o.0 o.1 ∙ sym e'
survey_one (refused n p r e) (surveyed w s t m d g k a b e') = absurd (w.none n p r.applies)
survey_one (surveyed w s t m d g k a b e') (refused n p r e) = absurd (w.none n p r.applies)
survey_one (surveyed w s t m d g k a b e) (surveyed w' s' t' m' d' g' k' a' b' e') =
    e
    ∙ ap₂ (λ (s : Sets) (m : Bool). surveys s m g k) (right_one t t') (test_one m m' d d')
    ∙ ap₂ (surveys s' m') (count_one a a') (count_one b b')
    ∙ sym e'

-- A well-formed chain has a goal to count.
pub goals_some : (x : Entry) (l : Lent) → WellFormed x l → (k : ℕ) → Count (Goal l.chain) l.chain.states k → 0 < k
goals_some x l w k a =
    let g = l.chain.goals in
    let d = set_apart g 0 (λ e. omega (arith, some_goal x l w)) in
    let b : bit g d.0 ≡ 1 = omega (arith, d.1, zero-div (2 ^ d.0)) in
    count_some a (bit_below g l.chain.states d.0 (goals_in_lem x l w) b) b
