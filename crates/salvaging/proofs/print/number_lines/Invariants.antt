use Rattle.text.specs.Page.{Prints}
use Rattle.salvaging.specs.Lines.{numbers_text}
use Rattle.salvaging.proofs.print.number_lines.Given as goal

abbrev pub invariant-loop-i : goal.invariant-loop-i
invariant-loop-i l = Prints l.initial.page (numbers_text l.word l.numbers l.i) l.page
