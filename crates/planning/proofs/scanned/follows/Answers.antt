use borrow.Author.Rules.{rules}
use Rattle.planning.proofs.Scanning.{follows_broken, follows_other}
use Rattle.planning.proofs.scanned.follows.Goals as goal

pub returns-then-said-eq-BROKEN : goal.returns-then-said-eq-BROKEN
returns-then-said-eq-BROKEN c = let a = c.args in follows_broken a.said a.next a.first (search rules)

pub returns : goal.returns
returns c = let a = c.args in follows_other a.said a.next a.first (search rules)
