use mathlib.Core.Path.{refl}
use mathlib.Core.Logic.{◌⊎◌}
use Prim.Native.Nat.{ℕ, ◌≤◌}
use lib.ListN.{get_or}
use Rattle.std.proofs.Common.{rules}
use Rattle.std.proofs.lemmas.Iterator.{first_from_Range}
use Rattle.meaning.specs.Refusal.{Earlier}
use Rattle.look.proofs.Found.{ranged}
use Rattle.look.proofs.scan.first_fault.Goals as goal

pub returns : goal.returns
returns c =
    let a = c.args in
    let P = λ (p : ℕ). (a.n ≤ get_or a.order.now p 0) ⊎ Earlier a.order.now p in
    ranged P refl _
    (first_from_Range _ _ _ _ P (λ p. P p → ⊥) c.find.ensures.ran (λ x q k. search rules) (λ x q k. search rules))
