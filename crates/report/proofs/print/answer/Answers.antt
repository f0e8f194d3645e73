use borrow.Author.Rules.{rules}
use borrow.Author.Tests.{eq-eqb, ne_eqb}
use Rattle.text.proofs.Paging.{one}
use Rattle.report.proofs.print.answer.Goals as goal

pub returns-then-a-ne0 : goal.returns-then-a-ne0
returns-then-a-ne0 c =
    rw (ne_eqb c.args.a.number 0 (search rules)) c.refused.ensures

pub returns-then-a-eq0 : goal.returns-then-a-eq0
returns-then-a-eq0 c =
    rw (eq-eqb c.args.a.number 0 (search rules), eq-eqb c.args.a.denominator 0 (search rules)) (one c.put.ensures)

pub returns : goal.returns
returns c =
    rw (eq-eqb c.args.a.number 0 (search rules), ne_eqb c.args.a.denominator 0 (search rules)) (one c.fraction.ensures)
