use Rattle.chaintext.proofs.Turning.{start_wrong, start_taken}
use Rattle.chaintext.proofs.turns.start.Goals as goal

pub returns-in_err-n : goal.returns-in_err-n
returns-in_err-n c = λ t r. rw c.from_residual.ensures (start_wrong c.in_err-n.ensures)

pub returns : goal.returns
returns c = λ t r. start_taken c.in_ok-n.ensures r
