use mathlib.Core.Path.{sym, ◌∙◌}
use Rattle.choice.proofs.Members.{passed_with}
use Rattle.choice.proofs.columns.passed_on.Goals as goal

pub returns-then-holds : goal.returns-then-holds
returns-then-holds c = passed_with _ _ _ _ (sym c.holds.ensures ∙ c.if-holds.true) c.without.ensures
