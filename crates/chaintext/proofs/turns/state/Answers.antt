use Rattle.std.proofs.Common.{rules, ◌<◌}
use Rattle.theory.specs.Numbers.Bits.{one_set}
use Rattle.chaintext.proofs.Adding.{state_wrong, state_plain, state_goal}
use Rattle.chaintext.proofs.turns.state.Goals as goal
use Rattle.chaintext.proofs.turns.state.Goals.{then-read, else-read}

pub returns-in_err-read : goal.returns-in_err-read
returns-in_err-read c = λ es o r. rw c.from_residual.ensures (state_wrong r (search rules) c.in_err-read.ensures)

pub returns : goal.returns
returns c = λ es o r.
    let inside : c.args.i < c.args.h.states = search rules in
    let few : c.args.i < 64 = search rules in
    elim c.if-read.branch [
      | then-read w ↦ rw (w.goals-is, one_set c.args.i few) (state_goal r inside c.in_ok-read.ensures w.if-read.true)
      | else-read w ↦ rw w.goals-is (state_plain r inside c.in_ok-read.ensures w.if-read.false)
    ]
