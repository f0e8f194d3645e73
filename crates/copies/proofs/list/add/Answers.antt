use borrow.Author.Rules.{rules}
use Rattle.copies.proofs.Growing.{grown_one}
use Rattle.copies.proofs.list.add.Goals as goal

pub returns : goal.returns
returns c = let a = c.args in grown_one a.table.now a.at a.x (search rules)
