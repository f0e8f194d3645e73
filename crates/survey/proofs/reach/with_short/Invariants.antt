use Rattle.survey.specs.Sets.{Exactly, MarkedTo}
use Rattle.survey.proofs.reach.with_short.Given as goal

abbrev pub invariant-loop-i : goal.invariant-loop-i
invariant-loop-i l = Exactly (MarkedTo l.set l.lacks l.i) l.marks
