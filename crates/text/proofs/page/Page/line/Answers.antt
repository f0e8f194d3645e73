use Rattle.text.proofs.Paging.{one, and, then}
use Rattle.text.proofs.page.Page.line.Goals as goal

pub returns : goal.returns
returns c = then (and (one c.put.ensures) c.both.ensures) c.put-2.ensures
