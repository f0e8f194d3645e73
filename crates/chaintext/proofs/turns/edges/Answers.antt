use Rattle.chaintext.proofs.Turning.{edges_wrong, edges_taken}
use Rattle.chaintext.proofs.turns.edges.Goals as goal

pub returns-in_err-n : goal.returns-in_err-n
returns-in_err-n c = λ t r. rw c.from_residual.ensures (edges_wrong c.in_err-n.ensures)

pub returns : goal.returns
returns c = λ t r. edges_taken c.in_ok-n.ensures r
