use Rattle.egorstream.proofs.Called.{bounded}
use Rattle.egorstream.proofs.call.between.Goals as goal

pub returns : goal.returns
returns c = bounded c.requires c.bounds.result c.bounds.ensures c.answered.ensures
