-- What is lent of what a file is made of.
use Rattle.std.specs.Prelude.{[]}
use Rattle.meaning.specs.Refusal.{Lent}
use Rattle.chain.specs.Given.{with}
use Rattle.chainwriter.specs.declared.lent.Source.{Source}

abbrev pub source : Source → Lent
source s = with s.given s.order.now s.rewards.now []
