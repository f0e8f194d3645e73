use Rattle.chainfile.specs.Input.{input}
use Rattle.theory.specs.Numbers.Decide.{fails}
use Rattle.opening.specs.Sizes.{Long}
use Rattle.opening.proofs.Held.{largest, small}
use Rattle.opening.proofs.with.Goals as goal

pub within-requires-clause-room : goal.within-requires-clause-room
within-requires-clause-room g c = largest (input c.args.kept.now c.args.more)

pub within-requires-else-long-clause-room : goal.within-requires-else-long-clause-room
within-requires-else-long-clause-room g c = small (input c.args.kept.now c.args.more) (fails (Long _) c.long.ensures c.if-long.false)
