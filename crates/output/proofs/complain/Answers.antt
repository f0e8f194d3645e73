use Rattle.std.proofs.Common.{sym}
use Rattle.std.proofs.lemmas.List.{length-take-le}
use Rattle.report.proofs.Unique.{within}
use Rattle.output.proofs.complain.Goals as goal

pub slice_bounds-line-end : goal.slice_bounds-line-end
slice_bounds-line-end g c = within c.answer.result c.answer.ensures c.in-Ok.is

pub slice_bounds-tell-end : goal.slice_bounds-tell-end
slice_bounds-tell-end g c = sym (length-take-le _ _ (within c.answer.result c.answer.ensures c.in-Ok.is))
