use Rattle.choice.specs.Turns.{Held, product_in, Best}
use Rattle.choice.proofs.turns.next.Given as goal

abbrev pub invariant-loop-i : goal.invariant-loop-i
invariant-loop-i l = Best (Held l.left) (product_in l.n l.columns) l.i l.best
