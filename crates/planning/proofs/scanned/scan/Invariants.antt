use Rattle.limit.specs.Told.{told}
use Rattle.planning.specs.Told.{told_weights}
use Rattle.planning.proofs.Scanning.{Seen}
use Rattle.planning.proofs.scanned.scan.Given as goal

abbrev pub invariant-loop-c : goal.invariant-loop-c
invariant-loop-c l = Seen (told_weights l.w) (told l.m) l.c l.first
