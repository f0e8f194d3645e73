use Rattle.text.proofs.Paging.{one, then}
use Rattle.text.proofs.page.Page.parts.Goals as goal

pub returns : goal.returns
returns c = then (then (one c.number.ensures) c.put.ensures) c.number-2.ensures
