use Rattle.std.proofs.Common.{sym}
use Rattle.std.proofs.lemmas.List.{length-take-le}
use Rattle.input.proofs.Taking.{came_within}
use Rattle.report.proofs.Unique.{within}
use Rattle.checkshares.proofs.judge.Goals as goal

pub slice_bounds-table-end : goal.slice_bounds-table-end
slice_bounds-table-end g c = came_within c.read_file.result c.read_file.ensures c.in-Ok.is

pub slice_bounds-check-end : goal.slice_bounds-check-end
slice_bounds-check-end g c = sym (length-take-le _ _ (came_within c.read_file.result c.read_file.ensures c.in-Ok.is))

pub slice_bounds-buffer-end : goal.slice_bounds-buffer-end
slice_bounds-buffer-end g c = within c.check.result c.check.ensures c.in-Ok-check.is

pub slice_bounds-print-end : goal.slice_bounds-print-end
slice_bounds-print-end g c = sym (length-take-le _ _ (within c.check.result c.check.ensures c.in-Ok-check.is))
