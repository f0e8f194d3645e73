use Rattle.std.proofs.Common.{sym}
use Rattle.std.proofs.lemmas.List.{length-take-le}
use Rattle.chaintext.proofs.Unique.{within}
use Rattle.input.proofs.Taking.{came_within}
use Rattle.makechain.proofs.main.Goals as goal

pub slice_bounds-kept-end : goal.slice_bounds-kept-end
slice_bounds-kept-end c = came_within c.read.result c.read.ensures.parts c.in-Ok.is

pub slice_bounds-make-end : goal.slice_bounds-make-end
slice_bounds-make-end c = sym (length-take-le _ _ (came_within c.read.result c.read.ensures.parts c.in-Ok.is))

pub slice_bounds-buffer-end : goal.slice_bounds-buffer-end
slice_bounds-buffer-end c = within c.in-Ok-make.ensures

pub slice_bounds-print-end : goal.slice_bounds-print-end
slice_bounds-print-end c = sym (length-take-le _ _ (within c.in-Ok-make.ensures))
