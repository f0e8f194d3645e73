use borrow.Author.Rules.{rules}
use Rattle.theory.specs.Numbers.Bits.{one_set}
use Rattle.choice.proofs.Members.{without_set}
use Rattle.choice.proofs.columns.without.Goals as goal

pub returns : goal.returns
returns c = rw (one_set c.args.i c.requires) (without_set c.args.set c.args.i (search rules) c.requires)
