use Rattle.std.proofs.Common.{⊎_elim}
use Rattle.chaintext.proofs.Counts.{no_count, count_long, count_low}
use Rattle.chaintext.proofs.lines.count.Goals as goal

pub returns-in_err-value : goal.returns-in_err-value
returns-in_err-value c = rw c.from_residual.ensures (no_count c.in_err-value.ensures)

pub returns-then-next-line : goal.returns-then-next-line
returns-then-next-line c = let n = c.in_ok-value.ensures.told in ⊎_elim (λ h. count_long n h) (λ h. count_low n h.1) c.then-next-line.either
