use Rattle.egorstream.proofs.Texting.{texted_fits}
use Rattle.egorstream.proofs.texts.egorstream_show.Goals as goal

pub of-requires : goal.of-requires
of-requires c = texted_fits c.text.result c.text.ensures

pub returns : goal.returns
returns c = rw c.of.ensures c.text.ensures
