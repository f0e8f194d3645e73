-- From what is answered of a file within so many steps to the face for C; and what it promises determines its answer.
use Prim.Native.Nat.{ℕ, ◌+◌, ◌≤◌}
use mathlib.Core.Path.{◌≡◌, subst}
use Rattle.meaning.specs.Chain.{most_states, most_edges}
use Rattle.meaning.specs.Block.{Input}
use Rattle.meaning.specs.Within.{FileWithin}
use Rattle.theory.specs.Rounds.Texts.{file_within_one, file_within_place}
use Rattle.equations.specs.Told.{told as parts_told}
use Rattle.std.proofs.Common.{Result}
use Rattle.chain.specs.declared.refusal.Refusal.{Refusal}
use Rattle.egorstream.specs.Reach.{told}
use Rattle.egorstream.specs.declared.within.Reached.{Reached}

module _ {f : Input} {k : ℕ} {r p : Result ℕ Refusal} (w : FileWithin f k (parts_told r)) (e : r ≡ p) where
  pub reached : FileWithin f k (parts_told p)
  reached = subst (λ (p : Result ℕ Refusal). FileWithin f k (parts_told p)) e w

  pub place_small : (parts_told p).place ≤ most_states + most_edges
  place_small = file_within_place reached

pub reached_unique : {f : Input} {k : ℕ} (r r' : Reached) → FileWithin f k (told r) → FileWithin f k (told r') → r ≡ r'
reached_unique r r' o o' =
    let e = file_within_one o o' in λ i. record { number = (e i).number; place = (e i).place; parts = (e i).parts }
