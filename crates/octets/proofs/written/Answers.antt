use Rattle.octets.proofs.Cut.{cut_decides}
use Rattle.octets.proofs.written.Goals as goal

pub returns-then-low-e : goal.returns-then-low-e
returns-then-low-e c =
    let at = c in
    let a = at.args in
    cut_decides a.kept.now a.high at.end-e.ensures a.low c.if-low-e.true c.some_written.result c.some_written.ensures
