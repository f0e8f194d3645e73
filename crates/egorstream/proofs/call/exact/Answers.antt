use borrow.Author.Rules.{rules}
use Rattle.egorstream.proofs.Called.{exactly}
use Rattle.egorstream.proofs.call.exact.Goals as goal

pub returns : goal.returns
returns c = exactly c.requires c.chance-chance.result c.map.result (search rules) c.chance-chance.ensures c.answered.ensures
