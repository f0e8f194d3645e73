-- What a caller lends, by what is given of its chain.
use Rattle.std.specs.Prelude.{ℕ, List}
use Rattle.meaning.specs.Refusal.{Lent}
use Rattle.chain.specs.Lent.{lent}
use Rattle.chain.specs.declared.given.Given.{Given}

abbrev pub with : Given → List ℕ → List ℕ → List ℕ → Lent
with g order rewards work = lent g.chain g.denominators.now g.edges.now order rewards work
