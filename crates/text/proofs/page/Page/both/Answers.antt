use Rattle.text.proofs.Paging.{one, then}
use Rattle.text.proofs.page.Page.both.Goals as goal

pub returns : goal.returns
returns c = then (then (one c.fraction.ensures) c.put.ensures) c.fraction-2.ensures
