use Rattle.choice.specs.Rest.{has}
use Rattle.choice.proofs.Filling.{Filling}
use Rattle.choice.proofs.rest.put_rest.Given as goal

abbrev pub invariant-loop-i : goal.invariant-loop-i
invariant-loop-i l = Filling (has l.going) l.m l.i l.initial.order l.p l.order
