-- What is chosen for a file's chain has a place that is small, and is one.
use Prim.Native.Nat.{ℕ, ◌+◌, ◌≤◌}
use mathlib.Core.Path.{◌≡◌, sym, ap, ap₂, subst, ◌∙◌}
use mathlib.Core.List.{List, []}
use native.Mathlib.Omega.{arith}
use Rattle.std.proofs.Common.{Result, Err}
use Rattle.meaning.specs.Chain.{most_states, most_edges}
use Rattle.meaning.specs.Refusal.{Lent}
use Rattle.meaning.specs.Block.{Input}
use Rattle.meaning.specs.Choice.{Choice as Numbers, no_choice, ChoiceOutcome, list_wrong, refused, chosen, FileChoice, file_refused, asked}
use Rattle.theory.specs.Outcomes.Places.{refused_places}
use Rattle.theory.specs.Outcomes.Choice.{choice_one}
use Rattle.theory.specs.Files.FileOne.{file_one, accepted_unrefused}
use Rattle.theory.specs.Files.StepsOne.{file_place}
use Rattle.chain.specs.declared.refusal.Refusal.{Refusal}
use Rattle.chain.specs.Given.{with}
use Rattle.choice.specs.Told.{told, Chooses}
use Rattle.opening.specs.Asked.{Shown}
use Rattle.opening.specs.declared.book.Opened.{Opened}
use Rattle.figures.proofs.Outcomes.{bare}
use Rattle.egorstream.specs.Order.{told_order, Chosen}
use Rattle.egorstream.specs.declared.order.Ordered.{Ordered}

place_of : {a b : Numbers} → a ≡ b → a.place ≡ b.place
place_of e = ap (λ (a : Numbers). a.place) e

chain_place : {l : Lent} {before after : List ℕ} (r : Refusal) → ChoiceOutcome l before (told (Err r)) after → r.place ≤ most_states + most_edges
chain_place r (list_wrong d e s) = omega (arith, place_of e)
chain_place r (refused h k q z e s) = omega (arith, place_of e, refused_places k q z)
chain_place r (chosen h f k t m y e) = omega (arith, place_of e)

pub place_small : {f : Input} {before after : List ℕ} (r : Refusal) → FileChoice f before (told (Err r)) after → r.place ≤ most_states + most_edges
place_small r (file_refused n p w e s) = omega (arith, place_of e, file_place w)
place_small r (asked t o) = chain_place r o

-- What is chosen for an opened file's chain is chosen for the file.
pub of_parts : {f : Input} {before after : List ℕ} (p : Opened) (r : Result ℕ Refusal) → Chooses (with p.given [] [] []) before r after → Shown f p
    → FileChoice f before (told r) after
of_parts {f} {before} {after} p r o s =
    asked s.holds.accepted (subst (λ (l : Lent). ChoiceOutcome l before (told r) after) (bare s.holds) o)

pub of_file : {f : Input} {before after : List ℕ} (p : Opened) (r : Result ℕ Refusal) → Chosen p before r after → Shown f p → FileChoice f before (told r) after
of_file {f} p r x s = x.of_file f s

-- The numbers of an answer, by its case.
pub said : {f : Input} {before after : List ℕ} {r r' : Result ℕ Refusal} → r ≡ r' → FileChoice f before (told r) after → FileChoice f before (told r') after
said {f} {before} {after} e o = subst (λ (r : Result ℕ Refusal). FileChoice f before (told r) after) e o

file_choice_one : {f : Input} {before after after' : List ℕ} {a a' : Numbers} → FileChoice f before a after → FileChoice f before a' after'
    → (a ≡ a') × (after ≡ after')
file_choice_one (file_refused n p r e s) (file_refused n' p' r' e' s') =
    let o = file_one r r' in (e ∙ ap₂ no_choice o.0 o.1 ∙ sym e', s ∙ sym s')
file_choice_one (file_refused n p r e s) (asked t' o') = absurd (accepted_unrefused t' r)
file_choice_one (asked t o) (file_refused n' p' r' e' s') = absurd (accepted_unrefused t r')
file_choice_one (asked t o) (asked t' o') = choice_one o o'

-- What the face promises determines its answer and the list afterwards.
pub order_unique : {f : Input} {before after after' : List ℕ} (r r' : Ordered) → FileChoice f before (told_order r) after → FileChoice f before (told_order r') after'
    → (r ≡ r') × (after ≡ after')
order_unique r r' o o' =
    let e = file_choice_one o o' in
    (λ i. record { number = (e.0 i).number; place = (e.0 i).place; sum = (e.0 i).sum }, e.1)
