use Rattle.lines.proofs.Figures.{five_digits}
use Rattle.lines.proofs.two_figures.five_digits.Goals as goal

pub returns : goal.returns
returns c =
    five_digits c.args.x _ _ _ _ _ c.digit.ensures c.digit-2.ensures c.digit-3.ensures c.digit-4.ensures c.digit-5.ensures
