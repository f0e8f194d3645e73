use native.Mathlib.Omega.{arith}
use borrow.Author.Rules.{rules}
use mathlib.Core.Path.{refl}
use Rattle.lines.proofs.Fitting.{one, name, and, worded}
use Rattle.lines.proofs.judged_line.Goals as goal

pub returns-in-Yes : goal.returns-in-Yes
returns-in-Yes c = rw c.in-Yes.is (worded refl (omega arith) (one c.put.ensures))

pub returns-in-No : goal.returns-in-No
returns-in-No c = rw c.in-No.is (worded refl (omega arith) (and (name (search rules) c.named.ensures) (one c.put-in-No.ensures)))
