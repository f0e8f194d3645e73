use Prim.Native.Nat.{◌*◌}
use Rattle.meaning.specs.ChainText.{text_of}
use Rattle.showing.specs.Print.{Fits, state_lines}
use Rattle.showing.proofs.print.state_lines.Given as goal

abbrev pub invariant-loop-i : goal.invariant-loop-i
invariant-loop-i l = Fits l.initial.page (text_of (state_lines l.opened l.i)) (l.i * 93) l.page
