use mathlib.Core.Path.{◌≡◌, ap, ◌∙◌}
use native.Mathlib.Omega.{arith}
use lib.ListN.{get_or}
use borrow.Author.Rules.{rules}
use Rattle.elimination.specs.Packed.{targets_of}
use Rattle.elimination.specs.Table.{part_at}
use Rattle.elimination.proofs.Tables.{row_cell}
use Rattle.elimination.proofs.step.Removal.changes.Goals as goal

-- The number that is read is that of the row's targets.
pub returns-else-i-self : goal.returns-else-i-self
returns-else-i-self c =
    let a = c.args in
    let s = a.self.now in
    let w = a.work.now in
    let e : targets_of (part_at s.n w a.i) ≡ get_or w c.row_start.result 0 =
    row_cell s.n w a.i 0 (omega arith) ∙ ap (λ q. get_or w q 0) (omega (arith, (c.row_start.ensures.row c.requires.1 s.few).0)) in
    rw e (search rules)
