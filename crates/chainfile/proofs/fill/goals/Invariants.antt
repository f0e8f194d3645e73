use Rattle.meaning.specs.Block.{flag_in, head_states}
use Rattle.chainfile.specs.Input.{input}
use Rattle.chainfile.proofs.Flags.{Gathered}
use Rattle.chainfile.proofs.fill.goals.Given as goal

abbrev pub invariant-loop-i : goal.invariant-loop-i
invariant-loop-i l = Gathered (λ k. flag_in (input l.kept 0) k) (head_states (input l.kept 0)) l.i l.goals
