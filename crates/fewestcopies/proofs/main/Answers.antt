use Rattle.std.proofs.Common.{sym}
use Rattle.std.proofs.lemmas.List.{length-take-le}
use Rattle.report.proofs.Unique.{within}
use Rattle.fewestcopies.proofs.main.Goals as goal

pub slice_bounds-buffer-end : goal.slice_bounds-buffer-end
slice_bounds-buffer-end c = within c.fewest.result c.fewest.ensures c.in-Ok.is

pub slice_bounds-print-end : goal.slice_bounds-print-end
slice_bounds-print-end c = sym (length-take-le _ _ (within c.fewest.result c.fewest.ensures c.in-Ok.is))
