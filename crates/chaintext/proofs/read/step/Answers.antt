use Rattle.std.proofs.Common.{sym, ◌∙◌}
use Rattle.chaintext.proofs.Finishing.{step_passed, step_taken}
use Rattle.chaintext.proofs.read.step.Goals as goal

pub returns-then-is_passed : goal.returns-then-is_passed
returns-then-is_passed c = step_passed c.requires (sym c.if-is_passed.true ∙ c.is_passed.ensures)

pub returns : goal.returns
returns c = step_taken (sym c.if-is_passed.false ∙ c.is_passed.ensures) c.take.ensures
