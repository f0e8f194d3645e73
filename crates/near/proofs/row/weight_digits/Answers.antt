use Rattle.std.proofs.Common.{arith}
use Rattle.near.specs.Word.{value}
use Rattle.near.proofs.row.weight_digits.Goals as goal

pub returns : goal.returns
unfolding value
returns c = (c.reach.ensures.0, omega arith)
