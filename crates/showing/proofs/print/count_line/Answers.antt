use native.Mathlib.Omega.{arith}
use mathlib.Core.Path.{refl}
use borrow.Author.Rules.{rules}
use Rattle.showing.proofs.Printing.{name, one, and, worded}
use Rattle.showing.proofs.print.count_line.Goals as goal

pub returns : goal.returns
returns c = worded refl (omega arith) (and (name (search rules) c.named.ensures) (one c.put.ensures))
