use Rattle.meaning.specs.Chain.{edge_count}
use Rattle.survey.specs.Sets.{sets_of}
use Rattle.elimination.specs.Gather.{share}
use Rattle.elimination.proofs.Cells.{Gathering}
use Rattle.elimination.proofs.gather.gather.Given as goal

abbrev pub invariant-loop-e : goal.invariant-loop-e
invariant-loop-e l = Gathering l.n (share l.n (sets_of l.sets) l.edges) (edge_count l.edges) l.initial.work l.e l.work
