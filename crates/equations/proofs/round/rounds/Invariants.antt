use mathlib.Core.List.{[]}
use Rattle.chain.specs.Given.{with}
use Rattle.equations.proofs.Rounds.{Holding}
use Rattle.equations.proofs.round.rounds.Given as goal

abbrev pub invariant-loop : goal.invariant-loop
invariant-loop l = Holding (with l.g [] [] []).chain l.counter l.values
