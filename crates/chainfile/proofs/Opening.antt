-- Where the largest chain's tables find room, the reader that asks for them and the one that asks for the file's own agree. What the latter promises is one.
use mathlib.Core.Path.{◌≡◌, sym, ap₂, ◌∙◌}
use native.Mathlib.Omega.{arith}
use Rattle.meaning.specs.Block.{Input}
use Rattle.meaning.specs.File.{Tables, Short, Reading as Answer, no_reading, ReadOutcome}
use Rattle.theory.specs.Files.FileOne.{file_one, accepted_unrefused}
use Rattle.chainfile.specs.Tells.{OpenOutcome}
use Rattle.chainfile.proofs.Tested.{within}
use Rattle.chainfile.proofs.Filling.{wide}

pub read_whole : {f : Input} (t : Tables) {a : Answer} {after : Tables} → (Short t → ⊥) → OpenOutcome f t a after → ReadOutcome f t a after
read_whole t long (OpenOutcome.refused n p w e d) = ReadOutcome.refused long n p w e d
read_whole {f} t long (OpenOutcome.narrow w s e d) = absurd (wide t (within f (λ b h. w.blocks b (omega arith))) long s)
read_whole t long (OpenOutcome.accepted w s e d) = ReadOutcome.accepted long w e d

pub open_one : {f : Input} {before : Tables} {a a' : Answer} {after after' : Tables} → OpenOutcome f before a after
    → OpenOutcome f before a' after' → (a ≡ a') × (after ≡ after')
open_one (OpenOutcome.refused n p w e t) (OpenOutcome.refused n' p' w' e' t') =
    let o = file_one w w' in (e ∙ ap₂ no_reading o.0 o.1 ∙ sym e', t ∙ sym t')
open_one (OpenOutcome.refused n p w e t) (OpenOutcome.narrow w' s' e' t') = absurd (accepted_unrefused w' w)
open_one (OpenOutcome.refused n p w e t) (OpenOutcome.accepted w' s' e' t') = absurd (accepted_unrefused w' w)
open_one (OpenOutcome.narrow w s e t) (OpenOutcome.refused n' p' w' e' t') = absurd (accepted_unrefused w w')
open_one (OpenOutcome.narrow w s e t) (OpenOutcome.narrow w' s' e' t') = (e ∙ sym e', t ∙ sym t')
open_one (OpenOutcome.narrow w s e t) (OpenOutcome.accepted w' s' e' t') = absurd (s' s)
open_one (OpenOutcome.accepted w s e t) (OpenOutcome.refused n' p' w' e' t') = absurd (accepted_unrefused w w')
open_one (OpenOutcome.accepted w s e t) (OpenOutcome.narrow w' s' e' t') = absurd (s s')
open_one (OpenOutcome.accepted w s e t) (OpenOutcome.accepted w' s' e' t') = (e ∙ sym e', t ∙ sym t')
