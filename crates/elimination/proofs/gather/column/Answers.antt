use mathlib.Core.Path.{sym, ◌∙◌}
use native.Mathlib.Omega.{arith}
use Rattle.elimination.specs.Gather.{column_of}
use Rattle.elimination.proofs.gather.column.Goals as goal

pub returns-then-holds : goal.returns-then-holds
unfolding column_of
returns-then-holds c = (rw (sym c.holds.ensures ∙ c.if-holds.true), omega arith)

pub returns-then-holds-2 : goal.returns-then-holds-2
unfolding column_of
returns-then-holds-2 c =
    (rw (sym c.holds.ensures ∙ c.if-holds.false, sym c.holds-2.ensures ∙ c.if-holds-2.true), omega arith)

pub returns : goal.returns
unfolding column_of
returns c =
    (rw (sym c.holds.ensures ∙ c.if-holds.false, sym c.holds-2.ensures ∙ c.if-holds-2.false), omega arith)
