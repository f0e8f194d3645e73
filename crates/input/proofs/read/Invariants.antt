use Prim.Native.Nat.{◌-◌}
use Rattle.input.proofs.Taking.{Going}
use Rattle.input.proofs.Giving.{Giving}
use Rattle.input.proofs.read.Given as goal

abbrev pub invariant-loop : goal.invariant-loop
invariant-loop g l = record {
  going : Going l.initial.kept l.kept l.came (140737488355328 - l.counter);
  giving : Giving (g.R.Read.remaining l.initial.file) (g.R.Read.remaining l.file) l.initial.kept l.kept l.came (140737488355328 - l.counter);
}
