-- What is promised of a file's figures, and of its step list, determines the answer, case and all.
use Prim.Native.Nat.{ℕ}
use mathlib.Core.Path.{◌≡◌, sym, ap, ◌∙◌}
use mathlib.Core.List.{List, []}
use native.Mathlib.Omega.{arith}
use lib.ListN.{get_or}
use Rattle.std.proofs.Common.{Result, Ok, Err}
use Rattle.meaning.specs.Refusal.{plain, with_list, listing}
use Rattle.meaning.specs.Outcome.{Answer as Numbers, Bounds as BothNumbers}
use Rattle.meaning.specs.Survey.{Survey}
use Rattle.meaning.specs.Block.{Input}
use Rattle.meaning.specs.File.{plain_in, paid_in, bare_in}
use Rattle.meaning.specs.Steps.{StepRecord}
use Rattle.meaning.specs.FileSteps.{FileSteps, file_refused, asked}
use Rattle.theory.specs.Outcomes.Surveyed.{survey_one}
use Rattle.theory.specs.Outcomes.Entries.{chance_determined, bounds_determined}
use Rattle.theory.specs.Files.FileOne.{file_one, file_numbers, accepted_unrefused}
use Rattle.theory.specs.Files.StepsOne.{file_steps_one}
use Rattle.chain.specs.declared.fraction.Fraction.{Fraction}
use Rattle.chain.specs.declared.refusal.Refusal.{Refusal}
use Rattle.chain.proofs.Faults.{above_0, one_refusal}
use Rattle.chain.proofs.Unique.{joined}
use Rattle.engines.specs.Answer.{told_chance, told_bounds, ProperChance}
use Rattle.engines.specs.declared.answer.Bounds.{Bounds}
use Rattle.engines.specs.declared.answer.Trace.{Trace}
use Rattle.engines.proofs.Told.{chance_told}
use Rattle.engines.proofs.TraceOne.{numbers_one}
use Rattle.engines.proofs.Unique.{chance_proper}
use Rattle.engines.proofs.Unique as entry
use Rattle.figures.specs.Found.{Counted, FileFound, refused, accepted, FileChance, FileBounds, ReportAsked, FileReported}
use Rattle.figures.specs.Traced.{FileTraced}
use Rattle.figures.specs.declared.answer.Counts.{Counts}
use Rattle.figures.specs.declared.answer.Report.{Report}

-- What is found of a file is one where what is found of its chain is.
file_found_one : {f : Input} {A : Type 0} {refusal : ℕ → ℕ → A} {Outcome : A → List ℕ → Type 0} {a b : A}
    → ((v w : List ℕ) → Outcome a v → Outcome b w → a ≡ b) → FileFound f refusal Outcome a → FileFound f refusal Outcome b → a ≡ b
file_found_one {refusal = refusal} one (refused n p w e) (refused n' p' w' e') =
    let o = file_one w w' in e ∙ (λ i. refusal (o.0 i) (o.1 i)) ∙ sym e'
file_found_one one (refused n p w e) (accepted a x) = absurd (accepted_unrefused a w)
file_found_one one (accepted a x) (refused n p w e) = absurd (accepted_unrefused a w)
file_found_one one (accepted a x) (accepted b y) = one x.work y.work x.outcome y.outcome

-- A fraction has a denominator above 0.
file_chance_proper : {f : Input} (r : Result Fraction Refusal) → FileChance f (told_chance r) → ProperChance r
file_chance_proper (Ok x) (refused n p w e) = absurd (omega (arith, file_numbers w, ap (λ (a : Numbers). a.number) e))
file_chance_proper (Err x) (refused n p w e) = tt
file_chance_proper {f} r (accepted a x) = chance_proper plain (plain_in f) r x.work x.outcome

-- The numbers of bounds determine their case, for a refusal's number is above 0.
bounds_same : (a b : Result Bounds Refusal) → told_bounds a ≡ told_bounds b → a ≡ b
bounds_same (Ok a) (Ok b) e =
    let lower = joined (ap (λ (a : BothNumbers). a.lower_numerator) e) (ap (λ (a : BothNumbers). a.lower_denominator) e) in
    let upper = joined (ap (λ (a : BothNumbers). a.upper_numerator) e) (ap (λ (a : BothNumbers). a.upper_denominator) e) in
    λ i. Ok (record { lower = lower i; upper = upper i })
bounds_same (Ok b) (Err r) e = absurd (omega (arith, ap (λ (a : BothNumbers). a.number) e, above_0 r.fault))
bounds_same (Err r) (Ok b) e = absurd (omega (arith, ap (λ (a : BothNumbers). a.number) e, above_0 r.fault))
bounds_same (Err r) (Err s) e = ap (λ (r : Refusal). Err r) (one_refusal r s (ap (λ (a : BothNumbers). a.number) e) (ap (λ (a : BothNumbers). a.place) e))

pub chance_unique : {f : Input} (r r' : Result Fraction Refusal) → FileChance f (told_chance r) → FileChance f (told_chance r') → r ≡ r'
chance_unique {f} r r' o o' =
    chance_told r r' (file_chance_proper r o) (file_chance_proper r' o')
    (file_found_one (λ v w x y. (chance_determined (plain_in f) x y).0) o o')

pub bounds_unique : {f : Input} (r r' : Result Bounds Refusal) → FileBounds f (told_bounds r) → FileBounds f (told_bounds r') → r ≡ r'
bounds_unique {f} r r' o o' = bounds_same r r' (file_found_one (λ v w x y. (bounds_determined (plain_in f) x y).0) o o')

module _ (f : Input) where
  counts_one : {a b : Counts} → Counted (bare_in f) a → Counted (bare_in f) b → a ≡ b
  counts_one x y =
      let s = survey_one x.outcome y.outcome in
      let states = x.states ∙ sym y.states in
      let edges = x.edges ∙ sym y.edges in
      let goals = x.goals ∙ ap (λ (s : Survey). s.goals) s ∙ sym y.goals in
      let live = x.live ∙ ap (λ (s : Survey). s.live) s ∙ sym y.live in
      λ i. record { states = states i; edges = edges i; goals = goals i; live = live i }

  report_one : (r r' : Report) → ReportAsked f r → ReportAsked f r' → r ≡ r'
  report_one r r' x y =
      let c = counts_one x.counts y.counts in
      let chance = (entry.chance_unique (plain_in f) x.chance.work y.chance.work r.chance r'.chance x.chance.outcome y.chance.outcome).0 in
      let reward = (entry.reward_unique (paid_in f) x.reward.work y.reward.work r.reward r'.reward x.reward.outcome y.reward.outcome).0 in
      let bounds = bounds_same r.bounds r'.bounds (bounds_determined (plain_in f) x.bounds.outcome y.bounds.outcome).0 in
      λ i. record { counts = c i; chance = chance i; reward = reward i; bounds = bounds i }

pub report_unique : (f : Input) (a a' : Result Report Refusal) → FileReported f a → FileReported f a' → a ≡ a'
report_unique f (Err x) (Err y) w v = let o = file_one w v in ap (λ (x : Refusal). Err x) (one_refusal x y o.0 o.1)
report_unique f (Err x) (Ok r) w (h, y) = absurd (accepted_unrefused h w)
report_unique f (Ok r) (Err x) (h, y) w = absurd (accepted_unrefused h w)
report_unique f (Ok r) (Ok r') (h, x) (h', y) = ap (λ (r : Report). Ok r) (report_one f r r' x y)

-- The three figures of a file, as they are asked for one by one and in a report.
pub figures_unique : {f : Input}
    → ((r r' : Result Fraction Refusal) → FileChance f (told_chance r) → FileChance f (told_chance r') → r ≡ r')
    × (((r r' : Result Bounds Refusal) → FileBounds f (told_bounds r) → FileBounds f (told_bounds r') → r ≡ r')
    × ((r r' : Result Report Refusal) → FileReported f r → FileReported f r' → r ≡ r'))
figures_unique {f} = (chance_unique, (bounds_unique, report_unique f))

traced_proper : {f : Input} {list count : ℕ} {rs : List StepRecord} (r : Result Fraction Refusal) → FileSteps f list [] (told_chance r) count rs → ProperChance r
traced_proper (Ok x) (file_refused n p w e c k) = absurd (omega (arith, file_numbers w, ap (λ (a : Numbers). a.number) e))
traced_proper (Err x) (file_refused n p w e c k) = tt
traced_proper {f} {list} r (asked a w o) = chance_proper listing (with_list list (plain_in f)) r w o.outcome

-- Of a file's step list it determines the answer and every number.
pub traced_unique : {f : Input} {list : ℕ} (t t' : Trace) → FileTraced f list t → FileTraced f list t'
    → (t.chance ≡ t'.chance) × ((j : ℕ) → get_or t.numbers j 0 ≡ get_or t'.numbers j 0)
traced_unique t t' o o' =
    let e = file_steps_one o.outcome o'.outcome in (
      chance_told t.chance t'.chance (traced_proper t.chance o.outcome) (traced_proper t'.chance o'.outcome) e.0,
      numbers_one t.numbers t'.numbers e.1 e.2 o.past o'.past,
    )
