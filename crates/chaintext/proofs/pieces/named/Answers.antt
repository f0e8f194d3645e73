use Rattle.chaintext.proofs.Naming.{named_number}
use Rattle.chaintext.proofs.pieces.named.Goals as goal

pub returns : goal.returns
returns c = named_number c.in_ok-word.ensures c.number.ensures
