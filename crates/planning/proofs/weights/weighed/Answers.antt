use native.Mathlib.Omega.{arith}
use Rattle.copies.proofs.Filing.{filing_made}
use Rattle.planning.specs.Told.{told_weights}
use Rattle.planning.proofs.Asking.{weighed_made}
use Rattle.planning.proofs.weights.weighed.Goals as goal

pub returns : goal.returns
returns c =
    weighed_made (told_weights c.args.w) c.with_copies.ensures (filing_made (omega arith) c.file.ensures)
