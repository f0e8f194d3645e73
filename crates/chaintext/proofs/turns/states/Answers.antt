use Rattle.chaintext.proofs.Turning.{states_wrong, states_taken}
use Rattle.chaintext.proofs.turns.states.Goals as goal

pub returns-in_err-n : goal.returns-in_err-n
returns-in_err-n c = λ t r. rw c.from_residual.ensures (states_wrong c.in_err-n.ensures)

pub returns : goal.returns
returns c = λ t r. states_taken c.in_ok-n.ensures r
