use mathlib.Core.Bool.{true, false}
use borrow.Author.Rules.{rules}
use Rattle.showing.proofs.Printing.{name, and, state_put}
use Rattle.showing.proofs.print.state_line.Goals as goal

pub returns-then-holds : goal.returns-then-holds
returns-then-holds c =
    let numbers = and (and (name (search rules) c.named.ensures) (name (search rules) c.named-2.ensures)) (name (search rules) c.named-3.ensures) in
    rw (← c.at.ensures, ← c.at-2.ensures, ← c.if-holds.ensures) (state_put true numbers c.put.ensures)

pub returns-else-holds : goal.returns-else-holds
returns-else-holds c =
    let numbers = and (and (name (search rules) c.named.ensures) (name (search rules) c.named-2.ensures)) (name (search rules) c.named-3.ensures) in
    rw (← c.at.ensures, ← c.at-2.ensures, ← c.if-holds.ensures) (state_put false numbers c.put-else-holds.ensures)
