use Rattle.std.proofs.Common.{sym}
use Rattle.std.proofs.lemmas.List.{length-take-le}
use Rattle.input.proofs.Taking.{came_within}
use Rattle.nightwithin.proofs.read.Goals as goal

pub slice_bounds-kept-end : goal.slice_bounds-kept-end
slice_bounds-kept-end g c = came_within c.read.result c.read.ensures.parts c.in-Ok.is

pub slice_bounds-print-end : goal.slice_bounds-print-end
slice_bounds-print-end g c = sym (length-take-le _ _ (came_within c.read.result c.read.ensures.parts c.in-Ok.is))
