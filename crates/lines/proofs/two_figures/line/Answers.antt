use Rattle.decimals.specs.Told.{told}
use Rattle.lines.proofs.Figures.{line_put}
use Rattle.lines.proofs.two_figures.line.Goals as goal

pub returns : goal.returns
returns c = let a = c.args in line_put a.word.now (told a.lower) (told a.upper) c.figure.ensures c.figure-2.ensures c.put.ensures
