use native.Mathlib.Omega.{arith}
use Rattle.blocks.proofs.Past.{past_refused}
use Rattle.blocks.proofs.block.test.Goals as goal

pub returns-else-b-kept : goal.returns-else-b-kept
returns-else-b-kept c = λ more. let a = c.args in past_refused a.kept.now more a.b (omega arith)
