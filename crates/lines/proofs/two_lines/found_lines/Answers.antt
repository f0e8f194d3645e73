use native.Mathlib.Omega.{arith}
use Rattle.near.specs.Answer.{told_between}
use Rattle.lines.proofs.Fitting.{worded}
use Rattle.lines.proofs.Figures.{near_same}
use Rattle.lines.proofs.two_lines.found_lines.Goals as goal

pub returns : goal.returns
returns c =
    let f = c.args.found in
    let text = near_same (told_between f.chance) (told_between f.miss) c.lower-lower.ensures c.upper-upper.ensures c.lower-low.ensures c.upper-high.ensures in
    worded text (omega arith) c.near_lines.ensures
