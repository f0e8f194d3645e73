-- The line within so many steps, from what the pieces and the report write; and that it is one.
use Prim.Native.Nat.{ℕ, ◌≤◌}
use mathlib.Core.Path.{◌≡◌, refl, ◌∙◌}
use mathlib.Core.List.{List}
use native.Mathlib.Omega.{arith}
use lib.ListN.{length}
use borrow.Author.Tests.{ne_eqb}
use Rattle.std.proofs.Common.{Result, Ok}
use Rattle.meaning.specs.Block.{Input}
use Rattle.meaning.specs.Text.{bytes_of, decimal, decimal_in}
use Rattle.meaning.specs.Outcome.{refusal}
use Rattle.meaning.specs.Report.{AnswerOutcome}
use Rattle.meaning.specs.Within.{no_within, within, within_text, within_line, within_room, FileWithin, WithinReportOutcome}
use Rattle.chain.specs.Refusal.{number_of}
use Rattle.chain.specs.declared.refusal.Refusal.{Refusal}
use Rattle.chain.proofs.Faults.{above_0}
use Rattle.theory.specs.Rounds.Texts.{within_report_one}
use Rattle.octets.specs.Written.{Written}
use Rattle.figures.specs.Told.{told_answer, Tells}
use Rattle.figures.specs.declared.answer.Answer.{Answer}
use Rattle.report.specs.Stands.{told}
use Rattle.report.proofs.Refusals.{stands, printed, refusal_told}
use Rattle.report.proofs.Unique.{unique}

module _ {f : Input} {k : ℕ} {before : List ℕ} (room : within_room ≤ length before) where
  -- Parts are told in a line of their own.
  pub held_line : (parts : ℕ) {r : ℕ} {after : List ℕ} → FileWithin f k (within parts) → Written before 0 (within_text k parts) after r
      → WithinReportOutcome f k before (told (Ok r)) after
  held_line parts w t = printed room (stands (record { answer = within parts; outcome = w; line = refl }) t)

  -- A refusal is told as the report tells it.
  pub refused_line : (x : Refusal) {a : Answer} (r : Result ℕ Refusal) {after : List ℕ} → FileWithin f k (no_within (number_of x.fault) x.place)
      → Tells a (refusal (number_of x.fault) x.place) → AnswerOutcome (told_answer a) before (told r) after → WithinReportOutcome f k before (told r) after
  refused_line x r w t =
      refusal_told x r (omega arith) room t
      (λ l e.
      record {
        answer = no_within (number_of x.fault) x.place;
        outcome = w;
        line = e ∙ rw (ne_eqb (number_of x.fault) 0 (λ z. omega (arith, above_0 x.fault)));
      })

pub within_line_unique : {f : Input} {k : ℕ} {before after after' : List ℕ} (r r' : Result ℕ Refusal) → WithinReportOutcome f k before (told r) after
    → WithinReportOutcome f k before (told r') after' → (r ≡ r') × (after ≡ after')
within_line_unique = unique (λ t t'. within_report_one)

-- The line that is shown of the address chain, and that of steps that are out of range.
address : within_line 3 (within 1033476505) ≡ bytes_of "within 3 1033476505 of 1073741824\n"
unfolding decimal decimal_in
address = refl

many : within_line 1001 (no_within 32 0) ≡ bytes_of "refused 32 at 0\n"
unfolding decimal decimal_in
many = refl
