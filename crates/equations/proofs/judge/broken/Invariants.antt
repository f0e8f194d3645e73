use Rattle.chain.proofs.Passing.{NoneBelow}
use Rattle.equations.specs.Judge.{DiffersAt}
use Rattle.equations.proofs.judge.broken.Given as goal

abbrev pub invariant-loop-state : goal.invariant-loop-state
invariant-loop-state l =
    NoneBelow (DiffersAt l.c.states l.c.goals l.good l.whole l.shares l.denominators l.carried) l.c.states l.state
