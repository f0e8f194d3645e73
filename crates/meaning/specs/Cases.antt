-- The chains worked by hand whose figures are proved: one list, with one claim.
use Rattle.std.specs.Prelude.{ℕ, zero, suc, ◌+◌, ◌-◌, ◌^◌, List, [], ◌∷◌, ◌++◌, length, replicate}
use Rattle.meaning.specs.Number.{tab_from, filled}
use Rattle.meaning.specs.Chain.{M, most_reward, edge, plain_edge}
use Rattle.meaning.specs.Figure.{Chance}
use Rattle.meaning.specs.Refusal.{Lent, with_list, work_size}
use Rattle.meaning.specs.Block.{Input, block_size}
use Rattle.meaning.specs.File.{FileRefused}
use Rattle.meaning.specs.Outcome.{
  cleared,
  Answer,
  refusal,
  fraction,
  infinite,
  ChanceOutcome,
  RewardOutcome,
  Bounds,
  between,
  BoundsOutcome,
}
use Rattle.meaning.specs.Steps.{StepRecord, StepsOutcome}
use Rattle.meaning.specs.Copies.{plan_of, copies_lent}

-- What an entry is lent, what it answers, and its work table then; for the companion also the records that it writes; a chance that no entry
-- need answer; or a file, with the number and the place that refuse it.
pub data Case : Type 0 where
  chance : Lent → Answer → List ℕ → Case
  reward : Lent → Answer → List ℕ → Case
  bounds : Lent → Bounds → List ℕ → Case
  steps : Lent → Answer → List ℕ → List StepRecord → Case
  value : Lent → ℕ → ℕ → Case
  file : Input → ℕ → ℕ → Case

abbrev pub Claim : Case → Type 0
Claim (chance l a w) = ChanceOutcome l a w
Claim (reward l a w) = RewardOutcome l a w
Claim (bounds l a w) = BoundsOutcome l a w
Claim (steps l a w records) = (before : List StepRecord) → StepsOutcome l before a (length records) w (filled records before)
Claim (value l p q) = Chance l.chain p q
Claim (file f number place) = FileRefused f number place

-- A chain that starts at state 0 is lent with the order 0, 1, 2, .. and a work table that has two numbers more than it need have.
abbrev pub lend : ℕ → ℕ → List ℕ → List ℕ → List ℕ → Lent
lend states goals denominators edges rewards =
    record {
      chain = record { states = states; start = 0; goals = goals; denominators = denominators; edges = edges };
      order = tab_from 0 states (λ i. i);
      rewards = rewards;
      work = replicate (work_size states + 2) 7;
      list = 0;
    }

-- The same with a step list that has two records more than it need have.
abbrev pub lend_list : Lent → Lent
lend_list l = with_list (l.chain.states + 2) l

-- A record of the step list: its state, rows, columns and divisor.
abbrev pub step : ℕ → ℕ → ℕ → ℕ → StepRecord
step state rows columns divisor = record { state = state; rows = rows; columns = columns; divisor = divisor }

-- The address chain: 5 is ok, 6 is the error. Then with 5, with 6, and with both as goals, without rewards and with them.
abbrev pub address : ℕ → List ℕ → Lent
address goals rewards =
    lend 7 goals
    (8 ∷ 5 ∷ 5 ∷ 5 ∷ 5 ∷ 1 ∷ 1 ∷ [])
    (plain_edge 0 5 7 ++ plain_edge 0 1 1 ++ plain_edge 1 0 4 ++ plain_edge 1 2 1 ++ plain_edge 2 0 4 ++ plain_edge 2 3 1
    ++ plain_edge 3 0 4 ++ plain_edge 3 4 1 ++ plain_edge 4 0 4 ++ plain_edge 4 6 1 ++ plain_edge 5 5 1 ++ plain_edge 6 6 1)
    rewards

abbrev pub okay : Lent
okay = address (2 ^ 5) []

abbrev pub failed : Lent
failed = address (2 ^ 6) []

abbrev pub either : Lent
either = address (2 ^ 5 + 2 ^ 6) []

abbrev pub done : Lent
done = address (2 ^ 5 + 2 ^ 6) (1 ∷ 0 ∷ 0 ∷ 0 ∷ 0 ∷ 0 ∷ 0 ∷ [])

-- 0 to 0, to the goal 1 and to the trap 2.
abbrev pub loop : Lent
loop = lend 3 (2 ^ 1) (3 ∷ 1 ∷ 1 ∷ []) (plain_edge 0 0 1 ++ plain_edge 0 1 1 ++ plain_edge 0 2 1 ++ plain_edge 1 1 1 ++ plain_edge 2 2 1) []

-- 0 to 1; 1 to 1 and to the goal 2.
abbrev pub wait : Lent
wait = lend 3 (2 ^ 2) (1 ∷ 2 ∷ 1 ∷ []) (plain_edge 0 1 1 ++ plain_edge 1 1 1 ++ plain_edge 1 2 1 ++ plain_edge 2 2 1) (1 ∷ 1 ∷ 0 ∷ [])

-- 0 to 1 and to the goal 3; 1 to 2; 2 to 1. Without rewards and with them.
abbrev pub astray : List ℕ → Lent
astray rewards = lend 4 (2 ^ 3) (2 ∷ 1 ∷ 1 ∷ 1 ∷ []) (plain_edge 0 1 1 ++ plain_edge 0 3 1 ++ plain_edge 1 2 1 ++ plain_edge 2 1 1 ++ plain_edge 3 3 1) rewards

abbrev pub unrewarded : Lent
unrewarded = astray []

abbrev pub endless : Lent
endless = astray (0 ∷ 1 ∷ 1 ∷ 0 ∷ [])

-- 0 to the goal 1, which has an edge back.
abbrev pub back : Lent
back = lend 2 (2 ^ 1) (1 ∷ 1 ∷ []) (plain_edge 0 1 1 ++ plain_edge 1 0 1) []

-- 0 to 1, and to the trap 3 with M - 1; 1 to the goal 2, and to the trap with 2.
abbrev pub rare : Lent
rare =
    lend 4 (2 ^ 2) (M ∷ 3 ∷ 1 ∷ 1 ∷ [])
    (plain_edge 0 1 1 ++ plain_edge 0 3 (M - 1) ++ plain_edge 1 2 1 ++ plain_edge 1 3 2 ++ plain_edge 2 2 1 ++ plain_edge 3 3 1) []

-- 0 to the goal 1, and to the trap 2 with M - 1.
abbrev pub slim : ℕ → Lent
slim denominator = lend 3 (2 ^ 1) (denominator ∷ 1 ∷ 1 ∷ []) (plain_edge 0 1 1 ++ plain_edge 0 2 (M - 1) ++ plain_edge 1 1 1 ++ plain_edge 2 2 1) []

-- The loops of the n states from i on.
abbrev pub loops : ℕ → ℕ → List ℕ
loops i zero = []
loops i (suc n) = plain_edge i i 1 ++ loops (suc i) n

-- The dice: 0 to 6 toss a coin, 7 to 12 are the faces, and the first of them is the goal.
abbrev pub dice : Lent
dice =
    lend 13 (2 ^ 7)
    (replicate 7 2 ++ replicate 6 1)
    (plain_edge 0 1 1 ++ plain_edge 0 2 1 ++ plain_edge 1 3 1 ++ plain_edge 1 4 1 ++ plain_edge 2 5 1 ++ plain_edge 2 6 1 ++ plain_edge 3 1 1
    ++ plain_edge 3 7 1 ++ plain_edge 4 8 1 ++ plain_edge 4 9 1 ++ plain_edge 5 10 1 ++ plain_edge 5 11 1 ++ plain_edge 6 2 1 ++ plain_edge 6 12 1 ++ loops 7 6)
    []

-- 0 to 1 and 2; 1 to 0, to the goal 3 and to the trap 4; 2 to the goal, and to the trap with M - 1.
abbrev pub grown : Lent
grown =
    lend 5 (2 ^ 3) (2 ∷ 3 ∷ M ∷ 1 ∷ 1 ∷ [])
    (plain_edge 0 1 1 ++ plain_edge 0 2 1 ++ plain_edge 1 0 1 ++ plain_edge 1 3 1 ++ plain_edge 1 4 1 ++ plain_edge 2 3 1 ++ plain_edge 2 4 (M - 1) ++ loops 3 2) []

-- 0 to 0 with the reward 3, and to the goal 1 with the reward `won`; the goal's loop has the reward `after`.
abbrev pub retry : ℕ → ℕ → List ℕ → Lent
retry won after rewards = lend 2 (2 ^ 1) (2 ∷ 1 ∷ []) (edge 0 0 1 3 ++ edge 0 1 1 won ++ edge 1 1 1 after) rewards

-- 0 to the goal 1 with the greatest reward, and to the trap 2.
abbrev pub dear : Lent
dear = lend 3 (2 ^ 1) (80001 ∷ 1 ∷ 1 ∷ []) (edge 0 1 40000 most_reward ++ plain_edge 0 2 40001 ++ loops 1 2) []

-- 64 states that loop, all of them goals; and one state that loops, and no goal.
abbrev pub full : Lent
full = lend 64 (2 ^ 64 - 1) (replicate 64 1) (loops 0 64) []

abbrev pub goalless : Lent
goalless = lend 1 0 (1 ∷ []) (loops 0 1) []

-- One copy, loss 1, finish 3 (request 5): nothing is missing that could be rebuilt, so that any rebuild gives this chain.
abbrev pub one_copy : Lent
one_copy = copies_lent (plan_of 1 1 1 3)

-- 512 zero bytes: the check passes, and the kind is wrong.
abbrev pub zeros : Input
zeros = record { kept = replicate block_size 0; more = 0 }

abbrev pub cases : List Case
cases =
    chance one_copy (fraction 1 4) (cleared one_copy)
    ∷ chance okay (fraction 4375 4376) (cleared okay)
    ∷ chance failed (fraction 1 4376) (cleared failed)
    ∷ reward done (fraction 625 547) (cleared done)
    ∷ chance loop (fraction 1 2) (cleared loop)
    ∷ reward wait (fraction 3 1) (cleared wait)
    ∷ chance unrewarded (fraction 1 2) (cleared unrewarded)
    ∷ reward endless infinite (cleared endless)
    ∷ chance back (fraction 1 1) (cleared back)
    ∷ chance rare (refusal 12 1) (cleared rare)
    ∷ bounds rare (between 0 1 1 1610612736) (cleared rare)
    ∷ value rare 1 6442450941
    ∷ chance (slim M) (fraction 1 2147483647) (cleared (slim M))
    ∷ chance (slim 2147483648) (refusal 5 0) (slim 2147483648).work
    ∷ chance goalless (refusal 4 0) goalless.work
    ∷ chance full (fraction 1 1) (cleared full)
    ∷ reward (retry 5 0 (0 ∷ 0 ∷ [])) (fraction 8 1) (cleared (retry 5 0 (0 ∷ 0 ∷ [])))
    ∷ reward (retry 5 7 (0 ∷ 0 ∷ [])) (fraction 8 1) (cleared (retry 5 7 (0 ∷ 0 ∷ [])))
    ∷ reward (retry 5 7 (1 ∷ 0 ∷ [])) (fraction 10 1) (cleared (retry 5 7 (1 ∷ 0 ∷ [])))
    ∷ reward (retry 65536 0 (0 ∷ 0 ∷ [])) (refusal 11 65) (retry 65536 0 (0 ∷ 0 ∷ [])).work
    ∷ chance dear (fraction 40000 80001) (cleared dear)
    ∷ steps (lend_list okay) (fraction 4375 4376) (cleared okay) (step 1 1 2 1 ∷ step 2 1 2 1 ∷ step 3 1 2 1 ∷ step 4 1 2 1 ∷ [])
    ∷ steps (lend_list either) (fraction 1 1) (cleared either) (step 1 1 2 1 ∷ step 2 1 2 1 ∷ step 3 1 2 1 ∷ step 4 1 2 8 ∷ [])
    ∷ steps (lend_list dice) (fraction 1 6) (cleared dice) (step 1 2 2 1 ∷ step 3 1 2 2 ∷ [])
    ∷ steps (lend_list grown) (refusal 12 2) (cleared grown) (step 1 1 3 1 ∷ [])
    ∷ steps (lend_list rare) (refusal 12 1) (cleared rare) []
    ∷ steps okay (refusal 2 0) okay.work []
    ∷ file zeros 23 0
    ∷ []
