use native.Mathlib.Omega.{arith}
use borrow.Author.Count.{below_more}
use Rattle.theory.specs.Numbers.Shift.{shift_is}
use Rattle.elimination.proofs.Shifts.{room_left}
use Rattle.elimination.proofs.row.shift.Goals as goal

pub returns-then-up-le-LIMIT : goal.returns-then-up-le-LIMIT
returns-then-up-le-LIMIT c = (shift_is _ _ (omega arith) c.nearly-k.ensures.1, omega arith)

pub returns-else-up-le-LIMIT : goal.returns-else-up-le-LIMIT
returns-else-up-le-LIMIT c =
    (shift_is _ _ c.nearly-k.ensures.2 (below_more _ _ c.nearly-k.ensures.1 (omega arith)), omega (arith, room_left c.args.t c.nearly-k.result (omega arith) (omega arith) (omega arith)))
