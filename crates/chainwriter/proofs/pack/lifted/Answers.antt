use Rattle.chainwriter.proofs.Packing.{lifts}
use Rattle.chainwriter.proofs.pack.lifted.Goals as goal

pub returns : goal.returns
returns c = lifts c.args.x c.args.offset c.requires.1
