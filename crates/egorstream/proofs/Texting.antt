-- From what is answered of files and texts to the faces for C; and what these promise determines their answers.
use Prim.Native.Nat.{ℕ, ◌^◌, ◌≤◌, ◌<◌}
use mathlib.Core.Path.{◌≡◌, ap}
use mathlib.Core.Logic.{⊎_elim, inl}
use mathlib.Core.List.{List}
use native.Mathlib.Omega.{arith}
use lib.ListN.{length}
use Rattle.meaning.specs.Block.{Input}
use Rattle.meaning.specs.Buffer.{Writing, no_writing}
use Rattle.meaning.specs.Translate.{TextedOutcome, most_text, TextLong, MakeOutcome}
use Rattle.theory.specs.Numbers.Sum.{below}
use Rattle.theory.specs.Outcomes.Places.{refused_places}
use Rattle.theory.specs.Files.StepsOne.{file_place}
use Rattle.theory.specs.Texts.Short.{refused_place}
use Rattle.theory.specs.Texts.Made.{make_one, texted_one}
use Rattle.report.specs.Stands.{told as printed}
use Rattle.std.proofs.Common.{Result, Ok, Err, IfErr}
use Rattle.chain.specs.declared.refusal.Refusal.{Refusal}
use Rattle.chainwriter.specs.Tells.{told as answered}
use Rattle.egorstream.specs.declared.write.Written.{Written}
use Rattle.egorstream.specs.Told.{told}

place_of : {a b : Writing} → a ≡ b → a.place ≡ b.place
place_of e = ap (λ (a : Writing). a.place) e

-- A refusal's place has room in its four bytes.
pub texted_place : {f : Input} {number place : ℕ} {before after : List ℕ} → TextedOutcome f before (no_writing number place) after → place < 2 ^ 32
texted_place (TextedOutcome.short h e d) = omega (arith, place_of e)
texted_place (TextedOutcome.file_refused h n p r e d) = omega (arith, place_of e, file_place r)
texted_place (TextedOutcome.texted h t e d) = omega (arith, place_of e)

text_few : (f : Input) → (TextLong f → ⊥) → length f.kept ≤ most_text
text_few f few =
    ⊎_elim (λ (h : most_text < length f.kept). absurd (few (inl h))) (λ h. h) (below most_text (length f.kept))

pub made_place : {f : Input} {number place : ℕ} {before after : List ℕ} → MakeOutcome f before (no_writing number place) after → place < 2 ^ 32
made_place (MakeOutcome.short h e d) = omega (arith, place_of e)
made_place (MakeOutcome.text_long h t e d) = omega (arith, place_of e)
made_place {f} (MakeOutcome.text_refused h t p r e d) = omega (arith, place_of e, refused_place r, text_few f t)
made_place (MakeOutcome.chain_refused h t l s w k p r e d) = omega (arith, place_of e, refused_places k p r)
made_place (MakeOutcome.made h t l s w g file x e d) = omega (arith, place_of e)

-- So has that of any answer.
pub texted_fits : {f : Input} {before after : List ℕ} (r : Result ℕ Refusal) → TextedOutcome f before (printed r) after → IfErr r (λ x. x.place < 2 ^ 32)
texted_fits (Ok n) o = tt
texted_fits (Err x) o = texted_place o

pub made_fits : {f : Input} {before after : List ℕ} (r : Result ℕ Refusal) → MakeOutcome f before (answered r) after → IfErr r (λ x. x.place < 2 ^ 32)
made_fits (Ok n) o = tt
made_fits (Err x) o = made_place o

written_one : (r r' : Written) → told r ≡ told r' → r ≡ r'
written_one r r' e = λ i. record { number = (e i).number; place = (e i).place; length = (e i).written }

pub texted_unique : {f : Input} {before after after' : List ℕ} (r r' : Written) → TextedOutcome f before (told r) after
    → TextedOutcome f before (told r') after' → (r ≡ r') × (after ≡ after')
texted_unique r r' o o' = let e = texted_one o o' in (written_one r r' e.0, e.1)

pub made_unique : {f : Input} {before after after' : List ℕ} (r r' : Written) → MakeOutcome f before (told r) after
    → MakeOutcome f before (told r') after' → (r ≡ r') × (after ≡ after')
made_unique r r' o o' = let e = make_one o o' in (written_one r r' e.0, e.1)
