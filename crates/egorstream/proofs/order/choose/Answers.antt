use Rattle.egorstream.proofs.Ordering.{of_parts}
use Rattle.egorstream.proofs.order.choose.Goals as goal

pub returns : goal.returns
returns c = record { of_file = λ f s. of_parts c.args.opened.now c.choose.result c.choose.ensures s }
