use native.Mathlib.Omega.{arith}
use mathlib.Core.Path.{refl}
use Rattle.showing.proofs.Printing.{one, and, worded}
use Rattle.showing.proofs.print.order_line.Goals as goal

pub returns : goal.returns
returns c = worded refl (omega arith) (and (and (one c.put.ensures) c.order_numbers.ensures) (one c.put-2.ensures))
