-- What is asked of a plan's file is the plan's: its near chances and the verdict on it; and each plan has one verdict.
use Rattle.std.specs.Prelude.{ℕ, ◌≤◌, ◌<◌, ◌≡◌, refl, List, []}
use Rattle.std.proofs.Common.{sym, ap₂, subst, ◌∙◌, inl, inr, ⊎_elim, arith}
use Rattle.meaning.specs.Refusal.{Lent, own_work, Beyond}
use Rattle.meaning.specs.Outcome.{Answer, refusal, fraction, ChanceOutcome}
use Rattle.meaning.specs.Block.{whole_file}
use Rattle.meaning.specs.File.{plain_in}
use Rattle.meaning.specs.Write.{FileOf}
use Rattle.meaning.specs.Near.{Near, NearOutcome}
use Rattle.meaning.specs.Miss.{MissOutcome}
use Rattle.meaning.specs.FileNear.{own, FileNear}
use Rattle.meaning.specs.Copies.{Plan, most_copies, Sensible, copies_lent, CopiesLarge, CopiesOutcome, large, planned}
use Rattle.meaning.specs.Limit.{Limit, IsLimit}
use Rattle.meaning.specs.FileLimit.{Verdict, verdict_by, Limited, judged, FileLimit, no_limit_lem, file_refused, chain_refused, asked}
use Rattle.meaning.specs.PlanTable.{PlanNear, Weights, with_copies}
use Rattle.meaning.specs.Fewest.{PlanVerdict, Verdicts}
use Rattle.theory.specs.Outcomes.Computed.{chance_outcome}
use Rattle.theory.specs.Outcomes.Determined.{refused_unformed}
use Rattle.theory.specs.Outcomes.DemandTwo.{chance_answers, chance_is, chance_refuses}
use Rattle.theory.specs.Outcomes.NearOne.{near_determined, near_outcome}
use Rattle.theory.specs.Files.FileOne.{accepted_unrefused}
use Rattle.theory.specs.Plans.Formed.{copies_plain}
use Rattle.theory.specs.Plans.Copies.{copies_one}
use Rattle.theory.specs.Plans.Filed.{copies_filed}

-- Where the weights serve one copy, they serve any number from 1 to 32.
pub sensible_copies : {x : Weights} {c : ℕ} → Sensible (with_copies x 1) → 0 < c → c ≤ most_copies → Sensible (with_copies x c)
sensible_copies {x} {c} s some few = record { copies = out; weights = s.weights }
  where
    out : Beyond most_copies c → ⊥
    out (inl e) = omega arith
    out (inr e) = omega arith

module _ {j : Plan} (sensible : Sensible j) where
  -- The entry's answer for the chance, as the planner gives it: of a refusal it gives no place.
  planner_exact : {exact : Answer} {w : List ℕ} → ChanceOutcome (copies_lent j) exact w
      → (exact' : Answer) × (CopiesOutcome j exact' × ((m : Limit) (a : Near) → verdict_by m exact a ≡ verdict_by m exact' a))
  planner_exact {exact} {w} o =
      let l = copies_lent j in
      let formed = copies_plain sensible in
      let fit = chance_refuses l formed exact w o in
      ⊎_elim
      (λ (z : exact.number ≡ 0).
      let none : CopiesLarge j → ⊥ = λ f. let t : exact.number ≡ 12 = fit.1 f in omega arith in
      let p = exact.numerator in
      let q = exact.denominator in
      (fraction p q, (planned sensible none p q (chance_is l formed exact w o z) refl, λ m a. rw z)))
      (λ (z : exact.number ≡ 12). (refusal 12 0, (large sensible (fit.0 z) refl, λ m a. rw z)))
      (chance_answers l formed exact w o)

  -- The file of the plan.
  module _ {file : List ℕ} (x : FileOf (copies_filed j) file) where
    same : plain_in (whole_file file) ≡ copies_lent j
    same = ap₂ (λ c o. own_work c o []) x.chain x.order

    pub plan_near : {chance miss : Near} → FileNear (whole_file file) own chance miss → PlanNear j chance miss
    plan_near (FileNear.file_refused n p r e d) = absurd (accepted_unrefused x.accepted r)
    plan_near {chance} {miss} (FileNear.asked h w v o m) =
        PlanNear.asked sensible w v (subst (λ l. NearOutcome l chance w) same o) (subst (λ l. MissOutcome l miss v) same m)

    pub plan_verdict : {m : Limit} {a : Limited} → IsLimit m → FileLimit (whole_file file) m a
        → (chance : Near) × ((v : Verdict) × ((a ≡ judged v chance) × PlanVerdict j m chance v))
    plan_verdict s (no_limit_lem n e) = absurd (n s)
    plan_verdict s (file_refused _ n p r e) = absurd (accepted_unrefused x.accepted r)
    plan_verdict s (chain_refused _ h n p r e) = absurd (refused_unformed (rw same at r) (copies_plain sensible))
    plan_verdict {m} s (asked _ h f exact chance w v o c e) =
        let (exact', (answer, agree)) = planner_exact (subst (λ l. ChanceOutcome l exact w) same o) in (
          chance,
          (
            verdict_by m exact chance,
            (
              e,
              record { exact = exact'; answer = answer; work = v; near = subst (λ l. NearOutcome l chance v) same c; is = agree m chance },
            ),
          ),
        )

-- A plan has one near chance and one verdict,
pub plan_verdict_one : {j : Plan} {m : Limit} {a a' : Near} {v v' : Verdict} → PlanVerdict j m a v → PlanVerdict j m a' v' → (a ≡ a') × (v ≡ v')
plan_verdict_one {m = m} o o' =
    let near = (near_determined _ o.near o'.near).0 in
    (near, o.is ∙ ap₂ (verdict_by m) (copies_one o.answer o'.answer) near ∙ sym o'.is)

-- and each of a sensible plan's has them.
pub verdicts_exist : {x : Weights} (m : Limit) → Sensible (with_copies x 1) → (a : ℕ → Near) × ((v : ℕ → Verdict) × Verdicts x m a v)
verdicts_exist {x} m s =
    let l : ℕ → Lent = λ c. copies_lent (with_copies x c) in
    let a : ℕ → Near = λ c. (near_outcome (l c)).answer in
    let exact : ℕ → Answer = λ c. (chance_outcome (l c)).answer in (
      a,
      (
        λ c. verdict_by m (exact c) (a c),
        λ c some few.
            let (exact', (answer, agree)) = planner_exact (sensible_copies s some few) (chance_outcome (l c)).outcome in
            record { exact = exact'; answer = answer; work = (near_outcome (l c)).work; near = (near_outcome (l c)).outcome; is = agree m (a c) },
      ),
    )
