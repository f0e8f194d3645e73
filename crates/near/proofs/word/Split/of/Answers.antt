use Rattle.std.proofs.Common.{arith}
use Rattle.near.proofs.Sums.{split_value}
use Rattle.near.proofs.word.Split.of.Goals as goal

pub returns : goal.returns
returns c = (split_value c.args.w, (omega arith, omega arith, omega arith))
