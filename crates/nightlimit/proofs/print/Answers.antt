use Rattle.std.proofs.Common.{sym}
use Rattle.std.proofs.lemmas.List.{length-take-le}
use Rattle.report.proofs.Unique.{within}
use Rattle.nightlimit.proofs.print.Goals as goal

pub slice_bounds-buffer-end : goal.slice_bounds-buffer-end
slice_bounds-buffer-end g c = within c.limit.result c.limit.ensures c.in-Ok.is

pub slice_bounds-print-end : goal.slice_bounds-print-end
slice_bounds-print-end g c = sym (length-take-le _ _ (within c.limit.result c.limit.ensures c.in-Ok.is))
