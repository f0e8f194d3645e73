-- What is promised of a file's chance within so many steps determines the answer, case and all.
use Prim.Native.Nat.{ℕ}
use mathlib.Core.Path.{◌≡◌}
use Rattle.std.proofs.Common.{Result}
use Rattle.meaning.specs.Block.{Input}
use Rattle.meaning.specs.Within.{FileWithin}
use Rattle.theory.specs.Rounds.Texts.{file_within_one}
use Rattle.chain.specs.declared.refusal.Refusal.{Refusal}
use Rattle.equations.specs.Told.{told}
use Rattle.equations.proofs.Unique.{told_one}

-- Two answers that are promised of one file and one number of steps are the same.
pub file_within_unique : {f : Input} {k : ℕ} (r r' : Result ℕ Refusal) → FileWithin f k (told r) → FileWithin f k (told r') → r ≡ r'
file_within_unique r r' o o' = told_one r r' (file_within_one o o')
