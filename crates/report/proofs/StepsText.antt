-- The text of a step list: the single line of a refusal, or the records' lines and the chance's.
use Prim.Native.Nat.{ℕ}
use native.Mathlib.Omega.{arith}
use mathlib.Core.Path.{◌≡◌, refl, ap, subst}
use Rattle.std.proofs.Common.{Result, Err}
use mathlib.Core.List.{List, [], ◌++◌}
use Rattle.meaning.specs.Chain.{most_states}
use Rattle.meaning.specs.Refusal.{Lent}
use Rattle.meaning.specs.Outcome.{Answer, ChanceFigure}
use Rattle.meaning.specs.Steps.{StepRecord}
use Rattle.meaning.specs.Block.{Input}
use Rattle.meaning.specs.FileSteps.{FileSteps, file_refused, asked}
use Rattle.meaning.specs.Text.{bytes_of}
use Rattle.meaning.specs.Report.{refused_text, answer_text, line_text, records_text, StepsReport}
use Rattle.theory.specs.Outcomes.DemandTwo.{stopped_twelve}
use Rattle.theory.specs.Files.FileOne.{file_numbers}
use Rattle.chain.specs.Refusal.{number_of}
use Rattle.chain.specs.declared.fraction.Fraction.{Fraction}
use Rattle.chain.specs.declared.refusal.Refusal.{Refusal}
use Rattle.engines.specs.Answer.{told_chance}
use Rattle.report.specs.Lines.{Ends}
use Rattle.report.proofs.Lasting.{ended, lasts}

figure_nought : {l : Lent} (a : Answer) → ChanceFigure l a → a.number ≡ 0
figure_nought a (ChanceFigure.chance p q x e) = ap (λ (a : Answer). a.number) e

module _ {f : Input} {count : ℕ} {records : List StepRecord} where
  -- A number that ends the report is a refusal of the reader or of the looking.
  pub steps_ended : {a : Answer} → FileSteps f most_states [] a count records → Ends a.number → StepsReport f (refused_text a.number a.place ++ bytes_of "\n")
  steps_ended (file_refused number place r e c k) h = rw e (StepsReport.file_refused number place r refl)
  steps_ended {a} (asked accepted work o) h =
      StepsReport.chain_refused a.number a.place accepted (ended (λ n p t. stopped_twelve t) figure_nought o.outcome h) refl

  -- The same of an answer that does not last.
  pub steps_line : {r : Result Fraction Refusal} {y : Refusal} → FileSteps f most_states [] (told_chance r) count records → (r ≡ Err y) × Ends (number_of y.fault)
      → StepsReport f (refused_text (number_of y.fault) y.place ++ bytes_of "\n")
  steps_line w (e, n) = steps_ended (subst (λ r. FileSteps f most_states [] (told_chance r) count records) e w) n

  -- Any other leaves the records' lines, and the chance's.
  pub steps_last : {a : Answer} → FileSteps f most_states [] a count records → (Ends a.number → ⊥)
      → StepsReport f (records_text records ++ line_text (bytes_of "chance ") (answer_text a))
  steps_last (file_refused number place r e c k) h =
      let same = ap (λ (a : Answer). a.number) e in
      absurd (h (Ends.file (omega (arith, file_numbers r)) (omega (arith, file_numbers r))))
  steps_last {a} (asked accepted work o) h =
      StepsReport.listed accepted (lasts (λ n p t. stopped_twelve t) figure_nought o.outcome h) a count work records o refl
