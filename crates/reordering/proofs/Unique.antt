-- Two answers that are promised of one input are the same: the case of the answer, and the buffer.
use Rattle.std.proofs.Common.{ℕ, ◌≤◌, ◌≡◌, List, length, drop, Ok, ap, ◌∙◌, arith, length-append}
use Rattle.meaning.specs.Block.{Input}
use Rattle.meaning.specs.Buffer.{Writing as Numbers}
use Rattle.meaning.specs.Reorder.{ReorderOutcome, short, file_refused, chain_refused, written}
use Rattle.theory.specs.Outcomes.Places.{refused_places}
use Rattle.theory.specs.Files.FileOne.{file_numbers}
use Rattle.theory.specs.Files.Reorder.{reorder_one}
use Rattle.chainwriter.specs.Tells.{Writing, told}
use Rattle.chainwriter.proofs.Unique.{told_one}

pub reorder_unique : {f : Input} {before after after' : List ℕ} (r r' : Writing) → ReorderOutcome f before (told r) after
    → ReorderOutcome f before (told r') after'
    → (r ≡ r') × (after ≡ after')
reorder_unique r r' o o' = let e = reorder_one o o' in (told_one r r' e.0, e.1)

-- A file lies within the buffer, so that its part of the buffer can be lent on.
pub within : {f : Input} {before after : List ℕ} {n : ℕ} → ReorderOutcome f before (told (Ok n)) after → n ≤ length after
within (short h e d) = absurd (omega (arith, ap (λ (a : Numbers). a.number) e))
within (file_refused h k p z e d) = absurd (omega (arith, ap (λ (a : Numbers). a.number) e, file_numbers z))
within (chain_refused h t k p z e d) = absurd (omega (arith, ap (λ (a : Numbers). a.number) e, refused_places k p z))
within {before} (written h t w k s o m x file z e d) =
    omega (arith, ap (λ (a : Numbers). a.written) e, ap length d ∙ length-append file (drop (length file) before))
