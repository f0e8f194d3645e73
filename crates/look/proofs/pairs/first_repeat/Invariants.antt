use Rattle.std.proofs.Common.{◌≡◌, None}
use Rattle.meaning.specs.Refusal.{Same, PairFault}
use Rattle.meaning.specs.Chain.{edge_count}
use Rattle.chain.proofs.Passing.{NoneBelow}
use Rattle.look.proofs.pairs.first_repeat.Given as goal

abbrev pub invariant-earlier : goal.invariant-earlier
invariant-earlier l = (l.first ≡ None) × NoneBelow (λ k. Same l.edges k l.e) l.e l.d

abbrev pub invariant-later : goal.invariant-later
invariant-later l = (l.first ≡ None) × NoneBelow (PairFault l.edges) (edge_count l.edges) l.e
