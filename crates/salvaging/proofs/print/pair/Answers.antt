use Rattle.text.proofs.Paging.{one, then}
use Rattle.salvaging.proofs.print.pair.Goals as goal

pub returns : goal.returns
returns c = then (then (one c.number.ensures) c.put.ensures) c.number-2.ensures
