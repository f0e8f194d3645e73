use Rattle.near.proofs.Parts.{Parted}
use Rattle.near.proofs.row.parts.Given as goal

abbrev pub invariant-loop-j : goal.invariant-loop-j
invariant-loop-j l = Parted l.row l.j l.p
