use Rattle.std.proofs.Common.{sym}
use Rattle.std.proofs.lemmas.List.{length-take-le}
use Rattle.input.proofs.Taking.{came_within}
use Rattle.report.proofs.Unique.{within}
use Rattle.nightsteps.proofs.main.Goals as goal

pub slice_bounds-kept-end : goal.slice_bounds-kept-end
slice_bounds-kept-end c = came_within c.read.result c.read.ensures.parts c.in-Ok.is

pub slice_bounds-steps-end : goal.slice_bounds-steps-end
slice_bounds-steps-end c = sym (length-take-le _ _ (came_within c.read.result c.read.ensures.parts c.in-Ok.is))

pub slice_bounds-buffer-end : goal.slice_bounds-buffer-end
slice_bounds-buffer-end c = within c.steps.result c.steps.ensures c.in-Ok-steps.is

pub slice_bounds-print-end : goal.slice_bounds-print-end
slice_bounds-print-end c = sym (length-take-le _ _ (within c.steps.result c.steps.ensures c.in-Ok-steps.is))
