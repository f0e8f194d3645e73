-- From what is said of a file and a table to the face for C; and what it promises determines its answer.
use Prim.Native.Nat.{ℕ, ◌+◌, ◌≤◌, ◌<◌}
use mathlib.Core.Path.{◌≡◌, sym, ap, subst, ◌∙◌}
use mathlib.Core.List.{List}
use Rattle.meaning.specs.Chain.{most_states, most_edges}
use Rattle.meaning.specs.Block.{Input}
use Rattle.meaning.specs.Judge.{FileJudged}
use Rattle.theory.specs.Judging.Texts.{file_judged_one, file_judged_number, file_judged_state}
use Rattle.equations.specs.Judge.{told}
use Rattle.equations.specs.declared.verdict.Verdict.{Verdict}
use Rattle.equations.specs.declared.verdict.Verdict.TheVariants.{No}
use Rattle.std.proofs.Common.{Result, Ok, Err}
use Rattle.chain.specs.declared.refusal.Refusal.{Refusal}
use Rattle.egorstream.specs.Check.{shown, Checks}
use Rattle.egorstream.specs.declared.check.Checked.{Checked}

module _ {f : Input} {shares : List ℕ} {r : Result Verdict Refusal} (o : FileJudged f shares (told r)) where
  said : {v : Result Verdict Refusal} → r ≡ v → FileJudged f shares (told v)
  said e = subst (λ (v : Result Verdict Refusal). FileJudged f shares (told v)) e o

  pub checked : {v : Result Verdict Refusal} {c : Checked} → r ≡ v → c ≡ shown (told v) → Checks f shares c
  checked {v} e q = record { verdict = told v; outcome = said e; numbers = q }

  pub place_small : {x : Refusal} → r ≡ Err x → x.place ≤ most_states + most_edges
  place_small e = (file_judged_number (said e)).1

  pub state_small : {i : ℕ} → r ≡ Ok (No i) → i < most_states
  state_small e = file_judged_state (said e)

pub checked_unique : {f : Input} {shares : List ℕ} {r r' : Checked} → Checks f shares r → Checks f shares r' → r ≡ r'
checked_unique o o' = o.numbers ∙ ap shown (file_judged_one o.outcome o'.outcome) ∙ sym o'.numbers
