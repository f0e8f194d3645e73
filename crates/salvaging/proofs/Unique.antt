-- What is promised of the text determines the answer, case and all, and the buffer afterwards; and the lines that document 02 shows.
use Prim.Native.Nat.{ℕ}
use Rattle.std.proofs.Common.{Result}
use Rattle.chain.specs.declared.refusal.Refusal.{Refusal}
use mathlib.Core.Path.{◌≡◌, refl}
use mathlib.Core.List.{List}
use Rattle.meaning.specs.Block.{Input}
use Rattle.meaning.specs.Text.{bytes_of, decimal, decimal_in}
use Rattle.meaning.specs.Salvage.{pair_text, SalvagedOutcome}
use Rattle.theory.specs.Files.SalvageOne.{salvage_determined}
use Rattle.report.specs.Stands.{told}
use Rattle.report.proofs.Unique.{unique}

pub salvage_unique : {f : Input} {before after after' : List ℕ} (r r' : Result ℕ Refusal) → SalvagedOutcome f before (told r) after
    → SalvagedOutcome f before (told r') after' → (r ≡ r') × (after ≡ after')
salvage_unique = unique (λ t t'. salvage_determined)

-- A lost block, and a row that fell short.
lost : pair_text (bytes_of "lost ") 4 21 ≡ bytes_of "lost 4 21\n"
unfolding decimal decimal_in
lost = refl

short : pair_text (bytes_of "short ") 2 1 ≡ bytes_of "short 2 1\n"
unfolding decimal decimal_in
short = refl
