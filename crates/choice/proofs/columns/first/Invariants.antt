use Rattle.theory.specs.Stages.Weighs.{Brought}
use Rattle.survey.specs.Sets.{sets_of}
use Rattle.choice.specs.Columns.{Gathered}
use Rattle.choice.proofs.columns.first.Given as goal

abbrev pub invariant-loop-e : goal.invariant-loop-e
invariant-loop-e l = Gathered l.c.states (Brought l.c.states l.c.goals l.edges (sets_of l.sets) l.e) l.columns
