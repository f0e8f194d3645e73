use native.Mathlib.Omega.{arith}
use borrow.Author.Rules.{rules}
use Rattle.input.proofs.LimitWord.{run_none, run_few, run_all, run_stop, run_small, run_more}
use Rattle.input.proofs.limit_word.read_run.Goals as goal

pub loop-end-init : goal.loop-end-init
loop-end-init c = run_none _ _ _ (search rules)

pub returns-in_default : goal.returns-in_default
returns-in_default c = run_stop c.loop-end.invariant c.in_default.ensures

pub pushed-number-requires : goal.pushed-number-requires
pushed-number-requires c = (run_few c.loop-end.invariant (search rules), run_small c.loop-end.invariant (search rules) c.in-Some.ensures)

pub loop-end-preserved : goal.loop-end-preserved
loop-end-preserved c = run_more c.loop-end.invariant (search rules) c.in-Some.ensures c.pushed-number.ensures

pub returns : goal.returns
returns c = run_all c.loop-end.invariant (omega arith)
