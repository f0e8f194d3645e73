use borrow.Author.Rules.{rules}
use Rattle.lines.proofs.Fitting.{one, name, and}
use Rattle.lines.proofs.parts_line.Goals as goal

pub returns : goal.returns
returns c =
    and (and (name (search rules) c.named.ensures) (name (search rules) c.named-2.ensures))
    (and (name (search rules) c.named-3.ensures) (one c.put.ensures))
