use mathlib.Core.Path.{◌∙◌}
use native.Mathlib.Omega.{arith}
use Rattle.elimination.proofs.Rows.{bounded_in, bounded_out}
use Rattle.elimination.proofs.row.bound.Goals as goal

pub returns-then-t-le-LIMIT : goal.returns-then-t-le-LIMIT
returns-then-t-le-LIMIT c = (c.requires.1, bounded_in _ _ (omega arith), omega arith)

pub returns : goal.returns
returns c =
    let e = c.round.ensures in
    (e.0, e.1 ∙ bounded_out _ _ (omega arith), e.2)
