use Rattle.meaning.specs.Refusal.{PairFault}
use Rattle.look.proofs.Seen.{Seen}
use Rattle.theory.specs.Numbers.Search.{NoneBefore}
use Rattle.look.proofs.pairs.distinct.Given as goal

abbrev pub invariant-loop-e : goal.invariant-loop-e
invariant-loop-e l = NoneBefore (PairFault l.edges) l.e × Seen l.edges l.seen l.e
