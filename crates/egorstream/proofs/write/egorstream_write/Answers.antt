use Rattle.egorstream.proofs.Writes.{place_fits, faced}
use Rattle.egorstream.proofs.write.egorstream_write.Goals as goal

pub of-requires : goal.of-requires
of-requires c = place_fits c.write.result c.write.ensures

pub returns : goal.returns
returns c = rw c.of.ensures (faced c.new.ensures c.write.ensures)
