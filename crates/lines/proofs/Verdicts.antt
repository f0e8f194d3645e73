-- The line of a verdict, from what the pieces and the report write; and that it is one.
use Prim.Native.Nat.{ℕ, ◌≤◌}
use mathlib.Core.Path.{◌≡◌, refl}
use mathlib.Core.List.{List}
use native.Mathlib.Omega.{arith}
use Rattle.std.proofs.Common.{Result, Ok}
use lib.ListN.{length}
use Rattle.meaning.specs.Block.{Input}
use Rattle.meaning.specs.Text.{bytes_of, decimal, decimal_in}
use Rattle.meaning.specs.Outcome as outcome
use Rattle.meaning.specs.Report.{answer_room, AnswerOutcome}
use Rattle.meaning.specs.Judge.{wrong, refusal, FileJudged, verdict_line, JudgeReportOutcome}
use Rattle.chain.specs.Refusal.{number_of}
use Rattle.chain.specs.declared.refusal.Refusal.{Refusal}
use Rattle.theory.specs.Judging.Texts.{judged_one}
use Rattle.octets.specs.Written.{Written}
use Rattle.equations.specs.Judge.{told as verdict_told}
use Rattle.equations.specs.declared.verdict.Verdict.{Verdict}
use Rattle.figures.specs.Told.{told_answer, Tells}
use Rattle.figures.specs.declared.answer.Answer.{Answer}
use Rattle.report.specs.Stands.{told}
use Rattle.report.proofs.Refusals.{stands, printed, refusal_told}
use Rattle.report.proofs.Unique.{unique}

module _ {f : Input} {shares before : List ℕ} (room : answer_room ≤ length before) where
  pub judged_line : (v : Verdict) {r : ℕ} {after : List ℕ} → FileJudged f shares (verdict_told (Ok v)) → Written before 0 (verdict_line (verdict_told (Ok v))) after r
      → JudgeReportOutcome f shares before (told (Ok r)) after
  judged_line v w t = printed room (stands (record { verdict = verdict_told (Ok v); outcome = w; line = refl }) t)

  -- A refusal is told as the report tells it.
  pub refused_line : (x : Refusal) {a : Answer} (r : Result ℕ Refusal) {after : List ℕ} → FileJudged f shares (refusal (number_of x.fault) x.place)
      → Tells a (outcome.refusal (number_of x.fault) x.place) → AnswerOutcome (told_answer a) before (told r) after
      → JudgeReportOutcome f shares before (told r) after
  refused_line x r w t =
      refusal_told x r (omega arith) room t (λ l e. record { verdict = refusal (number_of x.fault) x.place; outcome = w; line = e })

pub check_line_unique : {f : Input} {shares before after after' : List ℕ} (r r' : Result ℕ Refusal) → JudgeReportOutcome f shares before (told r) after
    → JudgeReportOutcome f shares before (told r') after' → (r ≡ r') × (after ≡ after')
check_line_unique = unique (λ t t'. judged_one)

-- The lines that are shown.
three : verdict_line (wrong 3) ≡ bytes_of "no at 3\n"
unfolding decimal decimal_in
three = refl

out_of_range : verdict_line (refusal 33 0) ≡ bytes_of "refused 33 at 0\n"
unfolding decimal decimal_in
out_of_range = refl
