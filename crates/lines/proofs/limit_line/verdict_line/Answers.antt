use native.Mathlib.Omega.{arith}
use Rattle.near.specs.Answer.{told_between}
use Rattle.lines.proofs.Fitting.{worded}
use Rattle.lines.proofs.Limits.{verdict_same}
use Rattle.lines.proofs.limit_line.verdict_line.Goals as goal

pub returns-in-Kept : goal.returns-in-Kept
returns-in-Kept c =
    worded (verdict_same c.args.verdict (told_between c.args.chance) c.in-Kept.is c.lower-lower.ensures c.upper-upper.ensures) (omega arith) c.line.ensures

pub returns-in-Broken : goal.returns-in-Broken
returns-in-Broken c =
    worded (verdict_same c.args.verdict (told_between c.args.chance) c.in-Broken.is c.lower-lower.ensures c.upper-upper.ensures) (omega arith) c.line-in-Broken.ensures

pub returns-in-Open : goal.returns-in-Open
returns-in-Open c =
    worded (verdict_same c.args.verdict (told_between c.args.chance) c.in-Open.is c.lower-lower.ensures c.upper-upper.ensures) (omega arith) c.line-in-Open.ensures
