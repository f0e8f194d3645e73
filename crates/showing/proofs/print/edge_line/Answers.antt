use borrow.Author.Rules.{rules}
use Rattle.showing.proofs.Printing.{name, one, and}
use Rattle.showing.proofs.print.edge_line.Goals as goal

pub returns : goal.returns
returns c =
    let ends = and (name (search rules) c.named.ensures) (name (search rules) c.named-2.ensures) in
    let numbers = and (and ends (name (search rules) c.named-3.ensures)) (name (search rules) c.named-4.ensures) in
    rw (← c.from.ensures, ← c.to.ensures, ← c.weight.ensures, ← c.reward.ensures) (and numbers (one c.put.ensures))
