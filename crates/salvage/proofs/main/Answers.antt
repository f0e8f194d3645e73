use Rattle.std.proofs.Common.{sym}
use Rattle.std.proofs.lemmas.List.{length-take-le}
use Rattle.input.proofs.Taking.{came_within}
use Rattle.report.proofs.Unique.{within}
use Rattle.salvage.proofs.main.Goals as goal

pub slice_bounds-kept-end : goal.slice_bounds-kept-end
slice_bounds-kept-end c = came_within c.read.result c.read.ensures.parts c.in-Ok.is

pub slice_bounds-salvage-end : goal.slice_bounds-salvage-end
slice_bounds-salvage-end c = sym (length-take-le _ _ (came_within c.read.result c.read.ensures.parts c.in-Ok.is))

pub slice_bounds-buffer-end : goal.slice_bounds-buffer-end
slice_bounds-buffer-end c = within c.salvage.result c.salvage.ensures c.in-Ok-salvage.is

pub slice_bounds-print-end : goal.slice_bounds-print-end
slice_bounds-print-end c = sym (length-take-le _ _ (within c.salvage.result c.salvage.ensures c.in-Ok-salvage.is))
