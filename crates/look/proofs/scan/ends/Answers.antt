use Prim.Native.Nat.{ℕ, ◌≤◌}
use mathlib.Core.Logic.{◌⊎◌}
use Rattle.std.proofs.Common.{rules}
use Rattle.std.proofs.lemmas.Iterator.{first_from_Range}
use Rattle.meaning.specs.Chain.{from, to}
use Rattle.look.proofs.Found.{ranged}
use Rattle.look.proofs.scan.ends.Goals as goal

pub returns : goal.returns
returns c =
    let a = c.args in
    let P = λ (e : ℕ). (a.n ≤ from a.edges.now e) ⊎ (a.n ≤ to a.edges.now e) in
    ranged P c.count.ensures _
    (first_from_Range _ _ _ _ P (λ e. P e → ⊥) c.find.ensures.ran (λ x q k. search rules) (λ x q k. search rules))
