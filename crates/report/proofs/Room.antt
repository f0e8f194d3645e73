-- There is room for any report.
use Prim.Native.Nat.{ℕ, ◌≤◌}
use native.Mathlib.Omega.{arith}
use mathlib.Core.List.{List}
use lib.ListN.{length}
use mathlib.Core.Path.{subst}
use Rattle.meaning.specs.Chain.{most_states, most_edges}
use Rattle.meaning.specs.Refusal.{Lent}
use Rattle.meaning.specs.Outcome.{
  Answer,
  Bounds,
  Outcome,
  ChanceFigure,
  ChanceOutcome,
  RewardFigure,
  RewardOutcome,
  BoundsOutcome,
}
use Rattle.meaning.specs.Report.{answer_text, line_text, lines_text, report_room}
use Rattle.theory.specs.Outcomes.Small.{chance_small, reward_small, bounds_small}
use Rattle.theory.specs.Files.Lengths.{Brief, chain_brief}
use Rattle.text.specs.declared.page.Page.{Page}
use Rattle.text.specs.Page.{Prints}
use Rattle.figures.specs.Told.{Tells, told_answer}
use Rattle.figures.specs.declared.answer.Answer.{Answer as Told}
use Rattle.report.proofs.Lengths.{lines_short, Wide}
use Rattle.report.proofs.Brief.{stopped_brief}

-- What is told of an answer has room in its types.
pub wide : {r : Told} {a : Answer} → Tells r a → Wide (told_answer r)
wide t = record { number = t.number; place = t.place; numerator = t.numerator; denominator = t.denominator }

pub retold : (name : List ℕ) {before after : Page} {r : Told} {a : Answer} → Tells r a
    → Prints before (line_text name (answer_text (told_answer r))) after → Prints before (line_text name (answer_text a)) after
retold name {before} {after} t w = subst (λ a. Prints before (line_text name (answer_text a)) after) t.same w

nought : Brief 0 0
nought = record { two = omega arith; four = omega arith }

chance_brief : {l : Lent} {a : Answer} {w : List ℕ} → ChanceOutcome l a w → Brief a.number a.place
chance_brief (Outcome.refused number place r e s) = rw e (chain_brief r)
chance_brief (Outcome.stopped number place f t e s) = rw e (stopped_brief f t)
chance_brief (Outcome.answered f t (ChanceFigure.chance p q h e) s) = rw e nought

-- What is told of the reward has a short number and place.
pub reward_brief : {l : Lent} {a : Answer} {w : List ℕ} → RewardOutcome l a w → Brief a.number a.place
reward_brief (Outcome.refused number place r e s) = rw e (chain_brief r)
reward_brief (Outcome.stopped number place f t e s) = rw e (stopped_brief f t.1)
reward_brief (Outcome.answered f t (RewardFigure.missed m e) s) = rw e nought
reward_brief (Outcome.answered f t (RewardFigure.expected u p q h e) s) = rw e nought

pub report_short : {l m n : Lent} {chance reward : Answer} {bounds : Bounds} {w₁ w₂ w₃ : List ℕ} (states edges goals live : ℕ)
    → states ≤ most_states → edges ≤ most_edges → goals ≤ most_states → live ≤ most_states
    → ChanceOutcome l chance w₁ → RewardOutcome m reward w₂ → BoundsOutcome n bounds w₃
    → length (lines_text states edges goals live chance reward bounds) ≤ report_room
report_short {chance = chance} {reward = reward} {bounds = bounds} states edges goals live hs he hg hl c r b =
    lines_short states edges goals live chance reward bounds hs he hg hl (chance_brief c) (chance_small c) (reward_brief r) (reward_small r)
    (bounds_small b)
