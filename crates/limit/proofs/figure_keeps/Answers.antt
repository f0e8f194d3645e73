use mathlib.Core.Path.{◌∙◌}
use borrow.Author.Rules.{rules}
use Rattle.limit.proofs.Tens.{cancel_left, cancel_right}
use Rattle.limit.proofs.figure_keeps.Goals as goal

pub returns-then-tens-m : goal.returns-then-tens-m
returns-then-tens-m c =
    let a = c.args in
    c.at_most.ensures ∙ cancel_left a.m.digits a.m.tens a.digits a.tens (search rules)

pub returns-else-tens-m : goal.returns-else-tens-m
returns-else-tens-m c =
    let a = c.args in
    c.reaches.ensures ∙ cancel_right a.m.digits a.m.tens a.digits a.tens (search rules)
