-- The line of a verdict on a limit, or that of a refusal, from what the pieces and the report write; and that it is one.
use Prim.Native.Nat.{ℕ, ◌≤◌}
use mathlib.Core.Path.{◌≡◌, refl}
use mathlib.Core.List.{List}
use native.Mathlib.Omega.{arith}
use Rattle.std.proofs.Common.{Result, Ok, Err}
use lib.ListN.{length}
use Rattle.meaning.specs.Block.{Input}
use Rattle.meaning.specs.Near.{Near}
use Rattle.meaning.specs.NearText.{Figure, lower_figure, upper_figure, figures_text, near_line}
use Rattle.meaning.specs.Outcome.{refusal}
use Rattle.meaning.specs.Report.{AnswerOutcome}
use Rattle.meaning.specs.Limit.{Limit}
use Rattle.meaning.specs.FileLimit.{verdict_text, limit_room, FileLimit, LimitReportOutcome}
use Rattle.octets.specs.Written.{Written}
use Rattle.near.specs.Answer.{told_between}
use Rattle.limitfile.specs.Told.{told_verdict, told_limited}
use Rattle.limitfile.specs.declared.Verdict.{Verdict}
use Rattle.limitfile.specs.declared.Limited.{Limited}
use Rattle.chain.specs.Refusal.{number_of}
use Rattle.chain.specs.declared.refusal.Refusal.{Refusal}
use Rattle.theory.proofs.Limits.File.{limit_report_one}
use Rattle.figures.specs.Told.{told_answer, Tells}
use Rattle.figures.specs.declared.answer.Answer.{Answer}
use Rattle.report.specs.Stands.{told}
use Rattle.report.proofs.Refusals.{stands, printed, refusal_told}
use Rattle.report.proofs.Unique.{unique}

-- Figures of the numbers of an answer make its line.
pub verdict_same : (v : Verdict) {known : Verdict} (chance : Near) {a b : Figure} → v ≡ known
    → a ≡ lower_figure chance.lower chance.twos → b ≡ upper_figure chance.upper chance.twos
    → figures_text (verdict_text (told_verdict known)) a b ≡ near_line (verdict_text (told_verdict v)) chance
verdict_same v chance e l u = rw (e, l, u) refl

module _ {f : Input} {m : Limit} {before : List ℕ} (room : limit_room ≤ length before) where
  pub judged_line : (l : Limited) {r : ℕ} {after : List ℕ} → FileLimit f m (told_limited (Ok l))
      → Written before 0 (near_line (verdict_text (told_verdict l.verdict)) (told_between l.chance)) after r → LimitReportOutcome f m before (told (Ok r)) after
  judged_line l w t = printed room (stands (record { limited = told_limited (Ok l); outcome = w; line = refl }) t)

  -- A refusal is told as the report tells it.
  pub refused_line : (x : Refusal) {a : Answer} (r : Result ℕ Refusal) {after : List ℕ} → FileLimit f m (told_limited (Err x))
      → Tells a (refusal (number_of x.fault) x.place) → AnswerOutcome (told_answer a) before (told r) after → LimitReportOutcome f m before (told r) after
  refused_line x r w t = refusal_told x r (omega arith) room t (λ l e. record { limited = told_limited (Err x); outcome = w; line = e })

pub limit_line_unique : {f : Input} {m : Limit} {before after after' : List ℕ} (r r' : Result ℕ Refusal) → LimitReportOutcome f m before (told r) after
    → LimitReportOutcome f m before (told r') after' → (r ≡ r') × (after ≡ after')
limit_line_unique = unique (λ t t'. limit_report_one)
