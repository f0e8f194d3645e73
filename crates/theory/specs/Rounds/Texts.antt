-- What is answered of a chain file within k steps, and what the program prints of it, is one; a refusal's place is small.
use Rattle.std.specs.Prelude.{ℕ, ◌+◌, ◌≤◌, ◌≡◌, List}
use Rattle.std.proofs.Common.{sym, ap, ap₂, ◌∙◌, arith}
use Rattle.meaning.specs.Chain.{most_states, most_edges}
use Rattle.meaning.specs.Refusal.{Lent}
use Rattle.meaning.specs.Block.{Input}
use Rattle.meaning.specs.Within.{Within, no_within, within_line, WithinOutcome, FileWithin, WithinReport}
use Rattle.theory.specs.Outcomes.Places.{refused_places}
use Rattle.theory.specs.Files.FileOne.{file_one, accepted_unrefused}
use Rattle.theory.specs.Files.StepsOne.{file_place}
use Rattle.theory.specs.Rounds.Answers.{within_one}

pub file_within_one : {f : Input} {k : ℕ} {a a' : Within} → FileWithin f k a → FileWithin f k a' → a ≡ a'
file_within_one (FileWithin.many_steps h e) (FileWithin.many_steps h' e') = e ∙ sym e'
file_within_one (FileWithin.many_steps h e) (FileWithin.file_refused h' n' p' r' e') = absurd (omega arith)
file_within_one (FileWithin.many_steps h e) (FileWithin.asked a' o') = within_one (WithinOutcome.many_steps h e) o'
file_within_one (FileWithin.file_refused h n p r e) (FileWithin.many_steps h' e') = absurd (omega arith)
file_within_one (FileWithin.file_refused h n p r e) (FileWithin.file_refused h' n' p' r' e') =
    let o = file_one r r' in e ∙ ap₂ no_within o.0 o.1 ∙ sym e'
file_within_one (FileWithin.file_refused h n p r e) (FileWithin.asked a' o') = absurd (accepted_unrefused a' r)
file_within_one (FileWithin.asked a o) (FileWithin.many_steps h' e') = within_one o (WithinOutcome.many_steps h' e')
file_within_one (FileWithin.asked a o) (FileWithin.file_refused h' n' p' r' e') = absurd (accepted_unrefused a r')
file_within_one (FileWithin.asked a o) (FileWithin.asked a' o') = within_one o o'

-- What the program prints is one text.
pub within_report_one : {f : Input} {k : ℕ} {t t' : List ℕ} → WithinReport f k t → WithinReport f k t' → t ≡ t'
within_report_one {k = k} r r' = r.line ∙ ap (within_line k) (file_within_one r.outcome r'.outcome) ∙ sym r'.line

-- Its place has room in the 32 bits of C.
within_place : {l : Lent} {k : ℕ} {a : Within} → WithinOutcome l k a → a.place ≤ most_states + most_edges
within_place (WithinOutcome.many_steps h e) = rw e (omega arith)
within_place (WithinOutcome.refused h number place r e) = rw e (refused_places number place r).2
within_place (WithinOutcome.answered h w e) = rw e (omega arith)

pub file_within_place : {f : Input} {k : ℕ} {a : Within} → FileWithin f k a → a.place ≤ most_states + most_edges
file_within_place (FileWithin.many_steps h e) = rw e (omega arith)
file_within_place (FileWithin.file_refused h n p r e) = rw e (file_place r)
file_within_place (FileWithin.asked a o) = within_place o
