-- What is promised of a text in a lent buffer determines the answer, case and all, and the buffer afterwards.
use Prim.Native.Nat.{ℕ, ◌≤◌}
use mathlib.Core.Path.{◌≡◌, sym, ap, ◌∙◌}
use mathlib.Core.List.{List}
use native.Mathlib.Omega.{arith}
use lib.ListN.{length, drop, length-append}
use Rattle.std.proofs.Common.{Result, Ok, Err}
use Rattle.meaning.specs.Outcome.{Answer}
use Rattle.meaning.specs.Block.{Input}
use Rattle.meaning.specs.Buffer.{Writing}
use Rattle.meaning.specs.Report.{TextOutcome, ReportOutcome, StepsReportOutcome, FaceOutcome, AnswerOutcome}
use Rattle.theory.specs.Files.ReportOne.{report_one, text_one}
use Rattle.theory.specs.Files.StepsOne.{steps_report_one}
use Rattle.chain.specs.declared.refusal.Refusal.{Refusal}
use Rattle.chain.proofs.Faults.{above_0, one_refusal}
use Rattle.report.specs.Stands.{told}

module _ {a b : Writing} (e : a ≡ b) where
  number : a.number ≡ b.number
  number = ap (λ (a : Writing). a.number) e

  size : a.written ≡ b.written
  size = ap (λ (a : Writing). a.written) e

-- A text is within the buffer, so that its part of the buffer can be lent on.
pub within : {most n : ℕ} {Text : List ℕ → Type 0} {before after : List ℕ} (r : Result ℕ Refusal) → TextOutcome most Text before (told r) after
    → r ≡ Ok n → n ≤ length after
within r (TextOutcome.short h e k) q = absurd (omega (arith, number (sym (ap told q) ∙ e)))
within {before = before} r (TextOutcome.printed h t w e k) q =
    omega (arith, size (sym (ap told q) ∙ e), ap length k ∙ length-append t (drop (length t) before))

-- An answer's numbers determine its case, for a refusal has a number.
pub told_one : (r r' : Result ℕ Refusal) → told r ≡ told r' → r ≡ r'
told_one (Ok n) (Ok m) e = ap (λ (n : ℕ). Ok n) (size e)
told_one (Ok n) (Err x) e = absurd (omega (arith, number e, above_0 x.fault))
told_one (Err x) (Ok n) e = absurd (omega (arith, number e, above_0 x.fault))
told_one (Err x) (Err y) e = ap (λ (x : Refusal). Err x) (one_refusal x y (number e) (ap (λ (a : Writing). a.place) e))

pub unique : {most : ℕ} {Text : List ℕ → Type 0} → ((t t' : List ℕ) → Text t → Text t' → t ≡ t') → {before after after' : List ℕ} (r r' : Result ℕ Refusal)
    → TextOutcome most Text before (told r) after → TextOutcome most Text before (told r') after' → (r ≡ r') × (after ≡ after')
unique one r r' o o' = let e = text_one one o o' in (told_one r r' e.0, e.1)

pub report_unique : {f : Input} {before after after' : List ℕ} (r r' : Result ℕ Refusal) → ReportOutcome f before (told r) after
    → ReportOutcome f before (told r') after' → (r ≡ r') × (after ≡ after')
report_unique = unique (λ t t'. report_one)

pub steps_unique : {f : Input} {before after after' : List ℕ} (r r' : Result ℕ Refusal) → StepsReportOutcome f before (told r) after
    → StepsReportOutcome f before (told r') after' → (r ≡ r') × (after ≡ after')
steps_unique = unique (λ t t'. steps_report_one)

pub face_unique : (face : ℕ) (chance : Answer) {before after after' : List ℕ} (r r' : Result ℕ Refusal) → FaceOutcome face chance before (told r) after
    → FaceOutcome face chance before (told r') after' → (r ≡ r') × (after ≡ after')
face_unique face chance = unique (λ t t' e e'. e ∙ sym e')

pub answer_unique : (a : Answer) {before after after' : List ℕ} (r r' : Result ℕ Refusal) → AnswerOutcome a before (told r) after
    → AnswerOutcome a before (told r') after' → (r ≡ r') × (after ≡ after')
answer_unique a = unique (λ t t' e e'. e ∙ sym e')
