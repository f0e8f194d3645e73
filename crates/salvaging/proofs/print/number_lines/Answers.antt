use Rattle.salvaging.proofs.Lined.{none_lined, more_lined}
use Rattle.salvaging.proofs.print.number_lines.Goals as goal

pub loop-i-init : goal.loop-i-init
loop-i-init c = none_lined c.args.word.now c.args.numbers.now

pub loop-i-preserved : goal.loop-i-preserved
loop-i-preserved c = more_lined c.args.word.now c.args.numbers.now c.loop-i.i c.loop-i.invariant c.number_line.ensures
