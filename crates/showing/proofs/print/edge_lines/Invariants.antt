use Prim.Native.Nat.{◌*◌}
use Rattle.meaning.specs.ChainText.{text_of}
use Rattle.showing.specs.Print.{Fits, edge_lines}
use Rattle.showing.proofs.print.edge_lines.Given as goal

abbrev pub invariant-loop-e : goal.invariant-loop-e
invariant-loop-e l = Fits l.initial.page (text_of (edge_lines l.edges l.e)) (l.e * 103) l.page
