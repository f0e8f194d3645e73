use borrow.Author.Rules.{rules}
use Rattle.planning.proofs.Scanning.{open_told, open_none}
use Rattle.planning.proofs.scanned.open_line.Goals as goal

pub returns-then-first-fewest : goal.returns-then-first-fewest
returns-then-first-fewest c =
    let a = c.args in
    open_told a.fewest a.first (search rules) (search rules) c.named.ensures c.put.ensures

pub returns-else-first-fewest : goal.returns-else-first-fewest
returns-else-first-fewest c = open_none c.args.fewest c.args.first (search rules)
