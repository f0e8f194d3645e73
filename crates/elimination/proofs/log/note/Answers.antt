use lib.ListN.{length-set}
use borrow.Author.Rules.{rules}
use Rattle.elimination.proofs.Noting.{holds_more}
use Rattle.elimination.proofs.log.note.Goals as goal

pub bounds-log-k : goal.bounds-log-k
bounds-log-k c = simp length-set (search rules)

pub bounds-log-k-2 : goal.bounds-log-k-2
bounds-log-k-2 c = simp length-set (search rules)

pub bounds-log-k-3 : goal.bounds-log-k-3
bounds-log-k-3 c = simp length-set (search rules)

pub bounds-log-k-4 : goal.bounds-log-k-4
bounds-log-k-4 c = simp length-set (search rules)

pub returns : goal.returns
returns c rs h = holds_more c.args.log.now _ c.requires.1 rs h
