-- The two lines of near chances, or the line of a refusal, from what the pieces and the report write; and that they are one text.
use Prim.Native.Nat.{ℕ, ◌≤◌}
use mathlib.Core.Path.{◌≡◌, refl, ◌∙◌}
use mathlib.Core.List.{List}
use native.Mathlib.Omega.{arith}
use lib.ListN.{length}
use borrow.Author.Tests.{ne_eqb}
use Rattle.std.proofs.Common.{Result, Ok, Err}
use Rattle.meaning.specs.Block.{Input}
use Rattle.meaning.specs.Outcome.{refusal}
use Rattle.meaning.specs.Report.{AnswerOutcome}
use Rattle.meaning.specs.NearText.{near_text, near_room}
use Rattle.meaning.specs.FileNear.{From, FileNear, NearReportOutcome}
use Rattle.chain.specs.Refusal.{number_of}
use Rattle.chain.specs.declared.refusal.Refusal.{Refusal}
use Rattle.chain.proofs.Faults.{above_0}
use Rattle.theory.proofs.Files.NearFile.{near_report_one}
use Rattle.octets.specs.Written.{Written}
use Rattle.near.specs.Answer.{told_between, told_near, told_miss}
use Rattle.near.specs.declared.answer.Figures.{Figures}
use Rattle.figures.specs.Told.{told_answer, Tells}
use Rattle.figures.specs.declared.answer.Answer.{Answer}
use Rattle.report.specs.Stands.{told}
use Rattle.report.proofs.Refusals.{stands, printed, refusal_told}
use Rattle.report.proofs.Unique.{unique}

module _ {f : Input} {from : From} {before : List ℕ} (room : near_room ≤ length before) where
  pub two_lines : (g : Figures) {r : ℕ} {after : List ℕ} → FileNear f from (told_between g.chance) (told_between g.miss)
      → Written before 0 (near_text (told_between g.chance) (told_between g.miss)) after r → NearReportOutcome f from before (told (Ok r)) after
  two_lines g w t =
      printed room (stands (record { chance = told_between g.chance; miss = told_between g.miss; outcome = w; lines = refl }) t)

  -- A refusal is told as the report tells it.
  pub refused_line : (x : Refusal) {a : Answer} (r : Result ℕ Refusal) {after : List ℕ} → FileNear f from (told_near (Err x)) (told_miss (Err x))
      → Tells a (refusal (number_of x.fault) x.place) → AnswerOutcome (told_answer a) before (told r) after → NearReportOutcome f from before (told r) after
  refused_line x r w t =
      refusal_told x r (omega arith) room t
      (λ l e.
      record {
        chance = told_near (Err x);
        miss = told_miss (Err x);
        outcome = w;
        lines = e ∙ rw (ne_eqb (number_of x.fault) 0 (λ z. omega (arith, above_0 x.fault)));
      })

pub near_lines_unique : {f : Input} {from : From} {before after after' : List ℕ} (r r' : Result ℕ Refusal) → NearReportOutcome f from before (told r) after
    → NearReportOutcome f from before (told r') after' → (r ≡ r') × (after ≡ after')
near_lines_unique = unique (λ t t'. near_report_one)
