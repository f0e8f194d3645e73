-- Planning copies (request 5): the chain of a job that is run with so many copies, and what the planner answers.
use Rattle.std.specs.Prelude.{ℕ, zero, suc, ◌+◌, ◌*◌, ◌-◌, ◌<◌, ◌≡◌, List, [], ◌∷◌, ◌++◌, length, get_or, replicate}
use Rattle.meaning.specs.Number.{tab_from}
use Rattle.meaning.specs.Chain.{Chain, plain_edge, row_sum}
use Rattle.meaning.specs.Figure.{Chance}
use Rattle.meaning.specs.Refusal.{Lent, own_work, Beyond}
use Rattle.meaning.specs.Outcome.{Answer, refusal, fraction}
use Rattle.meaning.specs.Demand.{TooLarge}
use Rattle.meaning.specs.Buffer.{Writing, no_writing}
use Rattle.meaning.specs.Write.{WriteOutcome}

-- The most copies, and the greatest weight.
abbrev pub most_copies : ℕ
most_copies = 32

abbrev pub most_weight : ℕ
most_weight = 1000000

-- What is planned: how many copies, and the weights of a loss, a rebuild and the finish.
pub record Plan : Type 0 where
  pub copies : ℕ
  pub loss : ℕ
  pub rebuild : ℕ
  pub finish : ℕ

abbrev pub plan_of : ℕ → ℕ → ℕ → ℕ → Plan
plan_of copies loss rebuild finish = record { copies = copies; loss = loss; rebuild = rebuild; finish = finish }

-- The weight at each place: 0 loss, 1 rebuild, 2 finish.
abbrev pub weights : Plan → List ℕ
weights j = j.loss ∷ j.rebuild ∷ j.finish ∷ []

-- 30: the copies are not 1 to 32.
abbrev pub CopiesFault : Plan → Type 0
CopiesFault j = Beyond most_copies j.copies

-- 31: the weight at place p is not 1 to 1,000,000.
abbrev pub PlaceFault : Plan → ℕ → Type 0
PlaceFault j p = (p < length (weights j)) × Beyond most_weight (get_or (weights j) p 0)

-- Neither is given.
pub record Sensible (j : Plan) : Type 0 where
  pub copies : CopiesFault j → ⊥
  pub weights : (p : ℕ) → PlaceFault j p → ⊥

-- The lists f 1, f 2, .., f n, one after the other.
unfoldable pub each : (ℕ → List ℕ) → ℕ → List ℕ
each f zero = []
each f (suc n) = each f n ++ f (suc n)

-- The state of the finished job.
abbrev pub finished : Plan → ℕ
finished j = j.copies + 1

-- State k means k copies left. With k left, loss counts k times; rebuild adds one where k is below the copies; finish ends the job well. 0 and
-- the finished job loop with weight 1.
abbrev pub losses : Plan → List ℕ
losses j = each (λ k. plain_edge k (k - 1) (k * j.loss)) j.copies

abbrev pub rebuilds : Plan → List ℕ
rebuilds j = each (λ k. plain_edge k (k + 1) j.rebuild) (j.copies - 1)

abbrev pub finishes : Plan → List ℕ
finishes j = each (λ k. plain_edge k (finished j) j.finish) j.copies

unfoldable pub copies_edges : Plan → List ℕ
copies_edges j = losses j ++ rebuilds j ++ finishes j ++ plain_edge 0 0 1 ++ plain_edge (finished j) (finished j) 1

-- How many states there are: 0 to the finished job.
abbrev pub copies_states : Plan → ℕ
copies_states j = j.copies + 2

-- It starts with all the copies, and 0 is the goal. The denominators are the row sums.
abbrev pub copies_chain : Plan → Chain
copies_chain j =
    record {
      states = copies_states j;
      start = j.copies;
      goals = 1;
      denominators = tab_from 0 (copies_states j) (row_sum (copies_edges j));
      edges = copies_edges j;
    }

-- The order is rising.
abbrev pub copies_order : Plan → List ℕ
copies_order j = tab_from 0 (copies_states j) (λ i. i)

-- What the entry for the chance is lent of it.
abbrev pub copies_lent : Plan → Lent
copies_lent j = own_work (copies_chain j) (copies_order j) []

-- Some kept row of its exact chance does not fit.
abbrev pub CopiesLarge : Plan → Type 0
CopiesLarge j = TooLarge (copies_lent j)

-- What is refused of a plan: 30 for the copies, then 31 at the least place of a wrong weight.
pub data PlanRefused (j : Plan) : ℕ → ℕ → Type 0 where
  copies_wrong : CopiesFault j → PlanRefused j 30 0
  weight_wrong : (CopiesFault j → ⊥) → (p : ℕ) → PlaceFault j p → ((q : ℕ) → q < p → PlaceFault j q → ⊥) → PlanRefused j 31 p

-- The planner answers the chance that no copy is left before the finish, or refuses by 12 at 0 where a row does not fit.
pub data CopiesOutcome (j : Plan) (a : Answer) : Type 0 where
  refused : (number place : ℕ) → PlanRefused j number place → a ≡ refusal number place → CopiesOutcome j a
  large : Sensible j → CopiesLarge j → a ≡ refusal 12 0 → CopiesOutcome j a
  planned : Sensible j → (CopiesLarge j → ⊥) → (p q : ℕ) → Chance (copies_chain j) p q → a ≡ fraction p q
      → CopiesOutcome j a

-- In its chain file the rewards are 0.
abbrev pub no_rewards : Plan → List ℕ
no_rewards j = replicate (copies_states j) 0

-- What the writer is lent of it, with a buffer.
abbrev pub copies_for : Plan → List ℕ → Lent
copies_for j buffer = record { chain = copies_chain j; order = copies_order j; rewards = no_rewards j; work = buffer; list = 0 }

-- The chain file of a plan, into a lent buffer: a plan that is refused leaves it; else it is as the writer has it.
pub data PlanFiled (j : Plan) (before : List ℕ) (a : Writing) (after : List ℕ) : Type 0 where
  refused : (number place : ℕ) → PlanRefused j number place → a ≡ no_writing number place → after ≡ before → PlanFiled j before a after
  filed : Sensible j → WriteOutcome (copies_for j before) a after → PlanFiled j before a after
