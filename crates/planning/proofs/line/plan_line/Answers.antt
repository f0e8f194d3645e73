use Rattle.copies.specs.Told.{told_plan}
use Rattle.planning.proofs.Lining.{line_told}
use Rattle.planning.proofs.line.plan_line.Goals as goal

pub returns : goal.returns
returns c = line_told (told_plan c.args.plan) c.requires c.near-nearness.ensures c.named.ensures c.figures_line.ensures
