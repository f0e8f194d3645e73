-- What stands in the buffer, or the line of a refusal, is the text that is asked for.
use Prim.Native.Nat.{ℕ, ◌≤◌, ◌<◌}
use mathlib.Core.Path.{◌≡◌, refl, sym, ap, ap₂, subst, ◌∙◌}
use mathlib.Core.List.{List, ◌++◌}
use native.Mathlib.Nat.{zero-add}
use native.Mathlib.Omega.{arith}
use lib.ListN.{length}
use borrow.Author.Tests.{ne_eqb}
use Rattle.std.proofs.Common.{Result, Err}
use Rattle.meaning.specs.Outcome.{refusal}
use Rattle.meaning.specs.Text.{bytes_of}
use Rattle.meaning.specs.Buffer.{writing, no_writing}
use Rattle.meaning.specs.Report.{refused_text, answer_room, answer_line, TextOutcome, AnswerOutcome}
use Rattle.chain.specs.Refusal.{number_of}
use Rattle.chain.specs.declared.refusal.Fault.TheVariants.{Room as RoomFault}
use Rattle.chain.specs.declared.refusal.Refusal.{Refusal}
use Rattle.chain.proofs.Faults.{above_0}
use Rattle.octets.specs.Written.{Written}
use Rattle.octets.proofs.Steps.{whole}
use Rattle.figures.specs.Told.{told_answer, Tells}
use Rattle.figures.specs.declared.answer.Answer.{Answer}
use Rattle.report.specs.Stands.{Stands, Writes, told}

-- A text that was written from the first place on.
pub stands : {Text : List ℕ → Type 0} {t before after : List ℕ} {r : ℕ} → Text t → Written before 0 t after r → Stands Text before r after
stands {t = t} h w = record { text = t; wanted = h; whole = w.past ∙ zero-add (length t); bytes = whole w }

pub printed : {Text : List ℕ → Type 0} {before after : List ℕ} {most r : ℕ} → most ≤ length before → Stands Text before r after
    → TextOutcome most Text before (writing r) after
printed h s = TextOutcome.printed h s.text s.wanted (ap writing s.whole) s.bytes

-- A buffer that is too short is refused, and stays.
pub short : {room : ℕ} {Text : List ℕ → Type 0} {before : List ℕ} (x : Refusal) → length before < room → (x.fault ≡ RoomFault) × (x.place ≡ 0)
    → TextOutcome room Text before (told (Err x)) before
short x h e = TextOutcome.short h (ap₂ no_writing (ap number_of e.0) e.1) refl

-- The line of a refusal is its text and a byte for its end.
line : (number place : ℕ) → 0 < number → answer_line (refusal number place) ≡ refused_text number place ++ bytes_of "\n"
line number place some = rw (ne_eqb number 0 (λ z. omega arith)) refl

-- A refusal by its number is told as the report tells an answer.
module _ (number place : ℕ) {a : Answer} {room : ℕ} {Text : List ℕ → Type 0} {before : List ℕ} (r : Result ℕ Refusal) {after : List ℕ} (few : answer_room ≤ room)
    (long : room ≤ length before) (some : 0 < number) (same : told_answer a ≡ refusal number place) where
  pub number_told : ((t : List ℕ) → t ≡ refused_text number place ++ bytes_of "\n" → Text t) → AnswerOutcome (told_answer a) before (told r) after
      → TextOutcome room Text before (told r) after
  number_told wanted (TextOutcome.short h e s) = absurd (omega arith)
  number_told wanted (TextOutcome.printed h l w e s) =
      TextOutcome.printed long l (wanted l (w ∙ ap answer_line same ∙ line number place some)) e s

module _ (x : Refusal) {a : Answer} {room : ℕ} {Text : List ℕ → Type 0} {before : List ℕ} (r : Result ℕ Refusal) {after : List ℕ} (few : answer_room ≤ room)
    (long : room ≤ length before) (t : Tells a (refusal (number_of x.fault) x.place)) where
  -- The same by its fault.
  pub refusal_told : ((t : List ℕ) → t ≡ refused_text (number_of x.fault) x.place ++ bytes_of "\n" → Text t) → AnswerOutcome (told_answer a) before (told r) after
      → TextOutcome room Text before (told r) after
  refusal_told = number_told (number_of x.fault) x.place r few long (above_0 x.fault) t.same

  -- The same where nothing else was written.
  pub refusal_written : {between : List ℕ} → Writes Text before (Err x) between → AnswerOutcome (told_answer a) between (told r) after
      → TextOutcome room Text before (told r) after
  refusal_written (wanted, same) o =
      refusal_told (λ l e. subst Text (sym e) wanted) (subst (λ b. AnswerOutcome (told_answer a) b (told r) after) same o)
