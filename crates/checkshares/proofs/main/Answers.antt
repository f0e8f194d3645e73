use Rattle.std.proofs.Common.{sym}
use Rattle.std.proofs.lemmas.List.{length-take-le}
use Rattle.input.proofs.Taking.{came_within}
use Rattle.checkshares.proofs.main.Goals as goal

pub slice_bounds-kept-end : goal.slice_bounds-kept-end
slice_bounds-kept-end c = came_within c.read.result c.read.ensures.parts c.in-Ok.is

pub slice_bounds-judge-end : goal.slice_bounds-judge-end
slice_bounds-judge-end c = sym (length-take-le _ _ (came_within c.read.result c.read.ensures.parts c.in-Ok.is))
