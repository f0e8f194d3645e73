use mathlib.Core.Path.{refl}
use Rattle.elimination.proofs.Middle.{copied_front}
use Rattle.elimination.proofs.part.load.Goals as goal

pub returns : goal.returns
returns c = copied_front _ c.args.part.now _ _ c.min-m.ensures c.copy_from_slice.ensures.after refl
