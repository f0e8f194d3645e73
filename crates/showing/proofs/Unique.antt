-- What is promised of what is shown determines the answer, case and all, and the buffer afterwards.
use Prim.Native.Nat.{ℕ}
use mathlib.Core.Path.{◌≡◌}
use mathlib.Core.List.{List}
use Rattle.std.proofs.Common.{Result}
use Rattle.meaning.specs.Block.{Input}
use Rattle.meaning.specs.Translate.{ShowOutcome}
use Rattle.theory.specs.Texts.Made.{shown_one}
use Rattle.chain.specs.declared.refusal.Refusal.{Refusal}
use Rattle.report.specs.Stands.{told}
use Rattle.report.proofs.Unique.{unique}

pub show_unique : {f : Input} {before after after' : List ℕ} (r r' : Result ℕ Refusal) → ShowOutcome f before (told r) after
    → ShowOutcome f before (told r') after' → (r ≡ r') × (after ≡ after')
show_unique = unique (λ t t'. shown_one)
