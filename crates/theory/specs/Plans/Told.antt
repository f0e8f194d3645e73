-- What the planners say is one: the near chances of a plan, the table of the weights, and the fewest copies.
use Rattle.std.specs.Prelude.{ℕ, zero, suc, ◌-◌, ◌≤◌, ◌<◌, ◌≡◌, refl, Bool, true, false, List, [], ◌++◌, leb, ltb}
use Rattle.std.proofs.Common.{sym, ap, ap₂, ◌∙◌, arith, leb-true}
use Rattle.meaning.specs.Number.{choose}
use Rattle.meaning.specs.Text.{bytes_of}
use Rattle.meaning.specs.Report.{named_text, refused_text}
use Rattle.meaning.specs.Near.{Near, near}
use Rattle.meaning.specs.Copies.{Plan, most_copies}
use Rattle.meaning.specs.Limit.{Limit}
use Rattle.meaning.specs.FileLimit.{Verdict}
use Rattle.meaning.specs.PlanTable.{PlanNear, Weights, copies_line, table_text, PlanTable}
use Rattle.meaning.specs.Fewest.{Fewest, fewest_text, FewestReport}
use Rattle.theory.specs.Outcomes.Determined.{meet}
use Rattle.theory.specs.Outcomes.NearOne.{near_determined}
use Rattle.theory.specs.Outcomes.MissOne.{miss_determined}
use Rattle.theory.specs.Plans.Copies.{refused_senseless, refused_one}
use Rattle.theory.specs.Plans.Judged.{plan_verdict_one}

pub plan_near_one : {j : Plan} {a a' b b' : Near} → PlanNear j a b → PlanNear j a' b' → (a ≡ a') × (b ≡ b')
plan_near_one (PlanNear.refused n p r e d) (PlanNear.refused n' p' r' e' d') =
    let o = refused_one r r' in
    let q = ap₂ (λ (n p : ℕ). near n p 0 0 0) o.0 o.1 in
    (e ∙ q ∙ sym e', d ∙ q ∙ sym d')
plan_near_one (PlanNear.refused n p r e d) (PlanNear.asked s' w' v' o' m') = absurd (refused_senseless r s')
plan_near_one (PlanNear.asked s w v o m) (PlanNear.refused n' p' r' e' d') = absurd (refused_senseless r' s)
plan_near_one (PlanNear.asked s w v o m) (PlanNear.asked s' w' v' o' m') = ((near_determined _ o o').0, (miss_determined _ m m').0)

-- The lines of two tables that agree.
table_same : (a a' : ℕ → Near) (n : ℕ) → ((c : ℕ) → 0 < c → c ≤ n → a c ≡ a' c) → table_text a n ≡ table_text a' n
unfolding table_text
table_same a a' zero same = refl
table_same a a' (suc n) same =
    ap₂ (λ s t. s ++ t)
    (table_same a a' n (λ c some few. same c some (omega arith)))
    (ap (copies_line (bytes_of "copies ") (suc n)) (same (suc n) (omega arith) (omega arith)))

refusal_line : ℕ → ℕ → List ℕ
refusal_line number place = refused_text number place ++ bytes_of "\n"

pub plan_table_one : {x : Weights} {t t' : List ℕ} → PlanTable x t → PlanTable x t' → t ≡ t'
unfolding refusal_line
plan_table_one (PlanTable.refused n p r e) (PlanTable.refused n' p' r' e') = let o = refused_one r r' in e ∙ ap₂ refusal_line o.0 o.1 ∙ sym e'
plan_table_one (PlanTable.refused n p r e) (PlanTable.told s' a' c' e') = absurd (refused_senseless r s')
plan_table_one (PlanTable.told s a c e) (PlanTable.refused n' p' r' e') = absurd (refused_senseless r' s)
plan_table_one (PlanTable.told s a c e) (PlanTable.told s' a' c' e') =
    e ∙ table_same a a' most_copies (λ i some few. (near_determined _ (c i some few).1 (c' i some few).1).0) ∙ sym e'

-- Of the same verdicts, the fewest copies and the first that is open are one.
module _ {v v' : ℕ → Verdict} (same : (c : ℕ) → 0 < c → c ≤ most_copies → v c ≡ v' c) where
  fewer : {fewest first fewest' first' : ℕ} → Fewest v fewest first → Fewest v' fewest' first' → fewest < fewest' → ⊥
  fewer {fewest} h h' l =
      let few : fewest ≤ most_copies = omega (arith, h'.most) in
      h'.least fewest h.some l (sym (same fewest h.some few) ∙ h.keeps few)

  sooner : {fewest first first' : ℕ} → Fewest v fewest first → Fewest v' fewest first' → first < first' → ⊥
  sooner {fewest} {first} {first'} h h' l =
      let few : first' - 1 ≤ most_copies = omega (arith, h'.first_most, h.most) in
      h.unsaid (first' - 1) (omega arith) (omega (arith, h'.first_most)) (same (first' - 1) (omega (arith, h.first_some)) few ∙ h'.breaks (omega (arith, h.first_some)))

pub fewest_one : {v v' : ℕ → Verdict} → ((c : ℕ) → 0 < c → c ≤ most_copies → v c ≡ v' c) → {fewest first fewest' first' : ℕ} → Fewest v fewest first
    → Fewest v' fewest' first'
    → (fewest ≡ fewest') × (first ≡ first')
fewest_one {v} {v'} same {fewest} {first} {fewest'} {first'} h h' =
    let back : (c : ℕ) → 0 < c → c ≤ most_copies → v' c ≡ v c = λ c some few. sym (same c some few) in
    let e = meet fewest fewest' (fewer same h h') (fewer back h' h) in
    let k : Fewest v' fewest first' = rw e h' in
    (e, meet first first' (sooner same h k) (sooner back k h))

-- So are their lines.
module _ (a a' : ℕ → Near) (same : (c : ℕ) → 0 < c → c ≤ most_copies → a c ≡ a' c) (fewest first : ℕ) (some : 0 < fewest) where
  first_line : (t : Bool) → leb fewest most_copies ≡ t
      → ◌≡◌ {A = List ℕ} (choose t (copies_line (bytes_of "copies ") fewest (a fewest)) (copies_line (bytes_of "none ") most_copies (a most_copies)))
      (choose t (copies_line (bytes_of "copies ") fewest (a' fewest)) (copies_line (bytes_of "none ") most_copies (a' most_copies)))
  first_line true e = ap (copies_line (bytes_of "copies ") fewest) (same fewest some (leb-true fewest most_copies e))
  first_line false e = ap (copies_line (bytes_of "none ") most_copies) (same most_copies (omega arith) (omega arith))

  fewest_same : fewest_text a fewest first ≡ fewest_text a' fewest first
  fewest_same = ap (λ t. t ++ choose (ltb first fewest) (named_text (bytes_of "open ") first ++ bytes_of "\n") []) (first_line (leb fewest most_copies) refl)

pub fewest_report_one : {x : Weights} {m : Limit} {t t' : List ℕ} → FewestReport x m t → FewestReport x m t' → t ≡ t'
unfolding refusal_line
fewest_report_one (FewestReport.refused n p r e) (FewestReport.refused n' p' r' e') = let o = refused_one r r' in e ∙ ap₂ refusal_line o.0 o.1 ∙ sym e'
fewest_report_one (FewestReport.refused n p r e) (FewestReport.no_limit_lem s' l' e') = absurd (refused_senseless r s')
fewest_report_one (FewestReport.refused n p r e) (FewestReport.told s' l' a' v' o' f' b' h' e') = absurd (refused_senseless r s')
fewest_report_one (FewestReport.no_limit_lem s l e) (FewestReport.refused n' p' r' e') = absurd (refused_senseless r' s)
fewest_report_one (FewestReport.no_limit_lem s l e) (FewestReport.no_limit_lem s' l' e') = e ∙ sym e'
fewest_report_one (FewestReport.no_limit_lem s l e) (FewestReport.told s' l' a' v' o' f' b' h' e') = absurd (l l')
fewest_report_one (FewestReport.told s l a v o f b h e) (FewestReport.refused n' p' r' e') = absurd (refused_senseless r' s)
fewest_report_one (FewestReport.told s l a v o f b h e) (FewestReport.no_limit_lem s' l' e') = absurd (l' l)
fewest_report_one (FewestReport.told s l a v o f b h e) (FewestReport.told s' l' a' v' o' f' b' h' e') =
    let one : (c : ℕ) → 0 < c → c ≤ most_copies → (a c ≡ a' c) × (v c ≡ v' c) = λ c some few. plan_verdict_one (o c some few) (o' c some few) in
    let (x, y) = fewest_one (λ c some few. (one c some few).1) h h' in
    e ∙ fewest_same a a' (λ c some few. (one c some few).0) f b h.some ∙ ap₂ (fewest_text a') x y ∙ sym e'
