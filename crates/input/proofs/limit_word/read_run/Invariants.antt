use Rattle.input.proofs.Capped.{}
use Rattle.input.proofs.LimitWord.{RunTo}
use Rattle.input.proofs.limit_word.read_run.Given as goal

abbrev pub invariant-loop-end : goal.invariant-loop-end
invariant-loop-end l = RunTo l.word l.begin l.x l.end l.number
