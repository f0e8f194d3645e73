use native.Mathlib.Omega.{arith}
use Rattle.lines.specs.Widths.{written}
use Rattle.lines.proofs.two_figures.figures_line.Goals as goal

pub returns-then-saturating_sub-word : goal.returns-then-saturating_sub-word
returns-then-saturating_sub-word c = record { same = c.line.ensures.same; line = written (omega arith) (c.line.ensures.fitted (omega arith)) }
