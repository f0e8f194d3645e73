use Prim.Native.Nat.{◌*◌}
use lib.ListN.{take}
use Rattle.meaning.specs.ChainText.{spaced}
use Rattle.showing.specs.Print.{Fits}
use Rattle.showing.proofs.print.order_numbers.Given as goal

abbrev pub invariant-loop-state : goal.invariant-loop-state
invariant-loop-state l = Fits l.initial.page (spaced (take l.state-index l.order)) (l.state-index * 21) l.page
