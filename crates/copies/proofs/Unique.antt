-- What is promised determines the planner's answer, and the answer and the buffer of a plan's file.
use mathlib.Core.Path.{◌≡◌, sym, ap₂, ◌∙◌}
use Prim.Native.Nat.{ℕ}
use mathlib.Core.List.{List}
use Rattle.meaning.specs.Buffer.{Writing, no_writing}
use Rattle.meaning.specs.Copies.{Plan, CopiesOutcome, PlanFiled}
use Rattle.theory.specs.Files.Written.{write_one}
use Rattle.theory.specs.Plans.Copies.{refused_senseless, refused_one, copies_one}
use Rattle.egorstream.specs.Told.{told as told_written}
use Rattle.egorstream.specs.declared.write.Written.{Written}
use Rattle.copies.specs.declared.ask.Planned.{Planned}
use Rattle.copies.specs.Told.{told}

pub planned_unique : {j : Plan} (r r' : Planned) → CopiesOutcome j (told r) → CopiesOutcome j (told r') → r ≡ r'
planned_unique r r' o o' =
    let e = copies_one o o' in
    λ i. record { number = (e i).number; place = (e i).place; numerator = (e i).numerator; denominator = (e i).denominator }

pub filed_unique : {j : Plan} {before after after' : List ℕ} (r r' : Written) → PlanFiled j before (told_written r) after
    → PlanFiled j before (told_written r') after' → (r ≡ r') × (after ≡ after')
filed_unique {j} {before} {after} {after'} r r' o o' =
    let e = one o o' in
    ((λ i. record { number = (e.0 i).number; place = (e.0 i).place; length = (e.0 i).written }), e.1)
  where
    one : {a a' : Writing} → PlanFiled j before a after → PlanFiled j before a' after' → (a ≡ a') × (after ≡ after')
    one (PlanFiled.refused n p f e k) (PlanFiled.refused n' p' f' e' k') =
        let (x, y) = refused_one f f' in (e ∙ ap₂ no_writing x y ∙ sym e', k ∙ sym k')
    one (PlanFiled.refused n p f e k) (PlanFiled.filed s w) = absurd (refused_senseless f s)
    one (PlanFiled.filed s w) (PlanFiled.refused n p f e k) = absurd (refused_senseless f s)
    one (PlanFiled.filed s w) (PlanFiled.filed s' w') = write_one w w'
