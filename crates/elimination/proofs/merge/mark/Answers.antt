use mathlib.Core.Path.{sym, ◌∙◌}
use native.Mathlib.Omega.{arith}
use Rattle.chain.proofs.Rising.{alone_in}
use Rattle.elimination.proofs.Fill.{only_none, only_some}
use Rattle.elimination.proofs.merge.mark.Goals as goal

pub returns-then-v-gt0 : goal.returns-then-v-gt0
returns-then-v-gt0 c = alone_in c.alone.ensures c.requires ∙ sym (only_some _ _ c.if-v-gt0.true)

pub returns-else-v-gt0 : goal.returns-else-v-gt0
returns-else-v-gt0 c = sym (only_none c.args.v _ (omega arith))
