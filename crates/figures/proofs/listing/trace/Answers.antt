use Rattle.figures.proofs.Traces.{asked_traced}
use Rattle.figures.proofs.listing.trace.Goals as goal

pub returns : goal.returns
returns c = λ f s. asked_traced s c.trace.ensures
