use Rattle.std.proofs.Common.{add-one, arith}
use Rattle.near.specs.Row.{value_at}
use Rattle.theory.specs.Numbers.Cuts.{longest_next}
use Rattle.near.proofs.row.most_on.Goals as goal

pub loop-j-preserved : goal.loop-j-preserved
loop-j-preserved c =
    let l = c.loop-j in
    (omega (arith, longest_next (value_at c.args.row.now) l.j _ (add-one l.j), c.weight_digits.ensures.0, c.max-most.ensures), omega (arith, c.weight_digits.ensures.1, c.max-most.ensures))
