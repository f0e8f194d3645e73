use Rattle.meaning.specs.Refusal.{OrderFault}
use Rattle.look.proofs.Ordered.{Seen}
use Rattle.theory.specs.Numbers.Search.{NoneBefore}
use Rattle.look.proofs.scan.faultless.Given as goal

abbrev pub invariant-loop-k : goal.invariant-loop-k
invariant-loop-k l = NoneBefore (OrderFault l.n l.order) l.k × Seen l.order l.seen l.k
