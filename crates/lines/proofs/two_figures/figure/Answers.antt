use borrow.Author.Rules.{rules}
use Rattle.decimals.specs.Told.{told}
use Rattle.lines.proofs.Figures.{one_digit, six_digits}
use Rattle.lines.proofs.two_figures.figure.Goals as goal

pub returns-then-f-lt10 : goal.returns-then-f-lt10
returns-then-f-lt10 c = one_digit (told c.args.f) (search rules) (search rules) (search rules) (rw c.from.ensures at c.named.ensures)

pub returns : goal.returns
returns c =
    six_digits (told c.args.f) (search rules) (search rules) (search rules) c.five_digits.ensures c.exponent.ensures
    (rw c.from-2.ensures at c.named-2.ensures) c.put.ensures c.named-3.ensures
