use Rattle.chain.proofs.Terms.{stays, divides}
use Rattle.chain.proofs.fraction.Fraction.reduce.Goals as goal

pub returns-then-g-eq0 : goal.returns-then-g-eq0
returns-then-g-eq0 c = stays _ c.gcd-g.ensures.is c.if-g-eq0.true

pub returns : goal.returns
returns c = divides _ c.gcd-g.ensures.is c.if-g-eq0.false
