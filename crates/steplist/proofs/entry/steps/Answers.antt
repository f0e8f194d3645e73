use Rattle.std.proofs.Common.{map, refl}
use Rattle.steplist.specs.Told.{told}
use Rattle.steplist.proofs.Promised.{promised}
use Rattle.steplist.proofs.entry.steps.Goals as goal

pub returns : goal.returns
returns c =
    promised c.trace-t.ensures (map told c.args.list.now) c.fill.ensures _ refl refl
