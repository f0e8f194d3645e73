use Rattle.chaintext.proofs.Adding.{edge_wrong, edge_taken}
use Rattle.chaintext.proofs.turns.edge.Goals as goal

pub returns-in_err-read : goal.returns-in_err-read
returns-in_err-read c = λ d o rs r. rw c.from_residual.ensures (edge_wrong r c.requires c.in_err-read.ensures)

pub returns : goal.returns
returns c = λ d o rs r. rw c.put.ensures (edge_taken r c.requires c.in_ok-read.ensures)
