use mathlib.Core.Path.{refl}
use mathlib.Core.Logic.{inr}
use native.Mathlib.Omega.{arith}
use borrow.Author.Rules.{rules}
use Rattle.meaning.specs.Call.{CallOutcome}
use Rattle.theory.specs.Files.CallBounds.{bounds_alike}
use Rattle.egorstream.proofs.Called.{exact_mode_lem, other_mode}
use Rattle.egorstream.proofs.call.egorstream_chance.Goals as goal

pub returns-then-mode-gt-MODE_BOUNDS : goal.returns-then-mode-gt-MODE_BOUNDS
returns-then-mode-gt-MODE_BOUNDS c = CallOutcome.mode_wrong (omega arith) refl refl

pub returns-then-answer-lt-ANSWER_LENGTH : goal.returns-then-answer-lt-ANSWER_LENGTH
returns-then-answer-lt-ANSWER_LENGTH c = CallOutcome.answer_short (omega arith) (omega arith) refl refl

pub returns-in-1 : goal.returns-in-1
returns-in-1 c = exact_mode_lem (search rules) c.exact.ensures

pub returns-in_default : goal.returns-in_default
returns-in_default c = bounds_alike (inr refl) (other_mode (omega arith) (search rules)) c.between.ensures
