use Rattle.elimination.proofs.merge.cell.Goals as goal

pub returns-then-gone : goal.returns-then-gone
returns-then-gone c = rw c.if-gone.true

pub returns-else-gone : goal.returns-else-gone
returns-else-gone c = rw c.if-gone.false c.mix.ensures
