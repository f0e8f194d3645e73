-- What the companion promises determines its answer, case and all, its count, the work table and the list afterwards.
use Prim.Native.Nat.{ℕ}
use mathlib.Core.Path.{◌≡◌, refl, sym, ap, ◌∙◌}
use mathlib.Core.List.{List, [], ◌∷◌, map}
use Rattle.meaning.specs.Refusal.{Lent, listing}
use Rattle.meaning.specs.Steps.{StepRecord as Numbers, StepsOutcome}
use Rattle.theory.specs.Outcomes.Steps.{steps_determined}
use Rattle.engines.specs.Answer.{told_chance}
use Rattle.engines.proofs.Told.{chance_told}
use Rattle.engines.proofs.Unique.{chance_proper}
use Rattle.steplist.specs.declared.StepRecord.{StepRecord}
use Rattle.steplist.specs.declared.Steps.{Steps}
use Rattle.steplist.specs.Told.{told}
use Rattle.steplist.proofs.Kept.{untold}

-- Its four numbers are all that a record has.
told_back : (rs : List StepRecord) → map untold (map told rs) ≡ rs
told_back [] = refl
told_back (r ∷ rs) = ap (λ (l : List StepRecord). r ∷ l) (told_back rs)

pub steps_unique : (l : Lent) (before : List Numbers) {after after' : List StepRecord} {w w' : List ℕ} (r r' : Steps)
    → StepsOutcome l before (told_chance r.chance) r.count w (map told after)
    → StepsOutcome l before (told_chance r'.chance) r'.count w' (map told after')
    → (r ≡ r') × (w ≡ w') × (after ≡ after')
steps_unique l before {after} {after'} {w} {w'} r r' o o' =
    let e = steps_determined l o o' in
    let same = chance_told r.chance r'.chance (chance_proper listing l r.chance w o.outcome)
    (chance_proper listing l r'.chance w' o'.outcome) e.0 in (
      λ i. record { chance = same i; count = e.1 i },
      e.2,
      sym (told_back after) ∙ ap (map untold) e.3 ∙ told_back after',
    )
