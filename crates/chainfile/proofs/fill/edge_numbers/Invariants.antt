use Rattle.meaning.specs.Salvage.{verdict}
use Rattle.chainfile.specs.Input.{input}
use Rattle.chainfile.proofs.Saving.{KeptTo}
use Rattle.chainfile.proofs.fill.edge_numbers.Given as goal

abbrev pub invariant-loop-e : goal.invariant-loop-e
invariant-loop-e l = KeptTo (input l.kept 0) (verdict l.lost) l.initial.table l.e l.k l.table
