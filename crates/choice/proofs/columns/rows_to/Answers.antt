use mathlib.Core.Path.{◌∙◌}
use native.Mathlib.Omega.{arith}
use lib.Count.{ones-le}
use Rattle.choice.proofs.Weights.{ones_but}
use borrow.Author.Rules.{rules}
use Rattle.choice.proofs.columns.rows_to.Goals as goal

pub returns : goal.returns
returns c =
    let r = c.without.result in
    (c.from.ensures ∙ ones_but _ _ _ c.without.ensures (search rules), omega (arith, c.from.ensures, ones-le 64 r (search rules)))
