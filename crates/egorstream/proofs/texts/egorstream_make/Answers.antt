use Rattle.egorstream.proofs.Texting.{made_fits}
use Rattle.egorstream.proofs.texts.egorstream_make.Goals as goal

pub of-requires : goal.of-requires
of-requires c = made_fits c.make.result c.make.ensures

pub returns : goal.returns
returns c = rw c.of.ensures c.make.ensures
