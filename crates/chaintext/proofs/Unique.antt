-- Two answers that are promised of one text are the same: the case of the answer, and the buffer.
use Prim.Native.Nat.{ℕ, ◌≤◌}
use mathlib.Core.Path.{◌≡◌, ap, ◌∙◌}
use mathlib.Core.List.{List}
use native.Mathlib.Omega.{arith}
use lib.ListN.{length, drop, length-append}
use Rattle.meaning.specs.Block.{Input}
use Rattle.meaning.specs.Buffer.{Writing as Numbers}
use Rattle.meaning.specs.Translate.{MakeOutcome, short, text_long, text_refused, chain_refused, made}
use Rattle.theory.specs.Outcomes.Places.{refused_places}
use Rattle.theory.specs.Texts.Made.{make_one}
use Rattle.std.proofs.Common.{Ok}
use Rattle.chainwriter.specs.Tells.{Writing, told}
use Rattle.chainwriter.proofs.Unique.{told_one}

pub make_unique : {f : Input} {before after after' : List ℕ} (r r' : Writing) → MakeOutcome f before (told r) after
    → MakeOutcome f before (told r') after'
    → (r ≡ r') × (after ≡ after')
make_unique r r' o o' = let e = make_one o o' in (told_one r r' e.0, e.1)

-- A file lies within the buffer, so that its part of the buffer can be lent on.
pub within : {f : Input} {before after : List ℕ} {n : ℕ} → MakeOutcome f before (told (Ok n)) after → n ≤ length after
within (short h e d) = absurd (omega (arith, ap (λ (a : Numbers). a.number) e))
within (text_long h t e d) = absurd (omega (arith, ap (λ (a : Numbers). a.number) e))
within (text_refused h t p z e d) = absurd (omega (arith, ap (λ (a : Numbers). a.number) e))
within (chain_refused h t l s w k p z e d) = absurd (omega (arith, ap (λ (a : Numbers). a.number) e, refused_places k p z))
within {before} (made h t l s w g file z e d) =
    omega (arith, ap (λ (a : Numbers). a.written) e, ap length d ∙ length-append file (drop (length file) before))
