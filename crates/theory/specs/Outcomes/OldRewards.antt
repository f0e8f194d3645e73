-- The reward entry as it stood before edges had rewards: where all of theirs are 0, its answers stand. And how large a first Reward can be.
use Rattle.std.specs.Prelude.{ℕ, ◌*◌, ◌^◌, ◌≤◌, ◌<◌, ◌≡◌, refl, ◌↔◌, List}
use Rattle.std.proofs.Common.{sym, subst, arith, mul-le-mul}
use Rattle.meaning.specs.Chain.{M, most_reward, denominator, edge_count, edge_reward, edge_rewards}
use Rattle.meaning.specs.Figure.{Missed}
use Rattle.meaning.specs.Row.{exact}
use Rattle.meaning.specs.Refusal.{Lent, paid, StateRewardFault, RewardFault, of_state, of_edge, WellFormed}
use Rattle.meaning.specs.Stop.{reward_of, earns, Stopped}
use Rattle.meaning.specs.Outcome.{Outcome, refused, stopped, answered, Answer, refusal, fraction, infinite, RewardFigure, RewardOutcome}
use Rattle.theory.specs.Chains.Rewards.{edge_rewards_most}
use Rattle.theory.specs.Figures.Rewards.{old_earned, OldExpected, earned_old, expected_old}
use Rattle.theory.specs.Outcomes.Formed.{row_sum_lem, denominator_small, reward_small, edge_reward_small}

-- The first rows as they were: the state's reward times the row total.
abbrev pub old_earns : Lent → ℕ → ℕ
old_earns l = old_earned l.chain (reward_of l)

-- The figure and the entry as they were: the equation, and 12 for rows that are made from those first rows.
pub data OldRewardFigure (l : Lent) (a : Answer) : Type 0 where
  missed : Missed l.chain → a ≡ infinite → OldRewardFigure l a
  expected : (Missed l.chain → ⊥) → (p q : ℕ) → OldExpected l.chain (reward_of l) p q → a ≡ fraction p q → OldRewardFigure l a

abbrev pub OldRewardStop : Lent → ℕ → ℕ → Type 0
OldRewardStop l number place = (Missed l.chain → ⊥) × Stopped (old_earns l) exact l number place

abbrev pub OldRewardOutcome : Lent → Answer → List ℕ → Type 0
OldRewardOutcome l = Outcome paid l refusal (OldRewardStop l) (OldRewardFigure l)

module _ (l : Lent) (none : (e : ℕ) → e < edge_count l.chain.edges → edge_reward l.chain.edges e ≡ 0) where
  -- 11 is what it was: a state's.
  pub fault_old : (p : ℕ) → RewardFault l.chain.states l.rewards l.chain.edges p ↔ StateRewardFault l.chain.states l.rewards p
  fault_old p = (go, of_state p)
    where
      go : {p : ℕ} → RewardFault l.chain.states l.rewards l.chain.edges p → StateRewardFault l.chain.states l.rewards p
      go (of_state i h) = h
      go (of_edge e h) = absurd (omega (arith, h.1, none e h.0))

  -- So is every first row, and with it every table.
  pub earns_old : earns paid l ≡ old_earns l
  earns_old j i = earned_old l.chain (reward_of l) none i j

  stop_old : (number place : ℕ) → Stopped (earns paid l) exact l number place → Stopped (old_earns l) exact l number place
  stop_old number place = subst (λ pay. Stopped pay exact l number place) earns_old

  stop_now : (number place : ℕ) → Stopped (old_earns l) exact l number place → Stopped (earns paid l) exact l number place
  stop_now number place = subst (λ pay. Stopped pay exact l number place) (sym earns_old)

  module _ {a : Answer} where
    figure_old : RewardFigure l a → OldRewardFigure l a
    figure_old (RewardFigure.missed m e) = OldRewardFigure.missed m e
    figure_old (RewardFigure.expected u p q h e) = OldRewardFigure.expected u p q ((expected_old l.chain (reward_of l) none).0 h) e

    figure_now : OldRewardFigure l a → RewardFigure l a
    figure_now (OldRewardFigure.missed m e) = RewardFigure.missed m e
    figure_now (OldRewardFigure.expected u p q h e) = RewardFigure.expected u p q ((expected_old l.chain (reward_of l) none).1 h) e

    -- The old answers stand.
    pub answers_old : {w : List ℕ} → RewardOutcome l a w ↔ OldRewardOutcome l a w
    answers_old {w} = (there, back)
      where
        there : RewardOutcome l a w → OldRewardOutcome l a w
        there (refused number place r e s) = refused number place r e s
        there (stopped number place f t e s) = stopped number place f (t.0, stop_old number place t.1) e s
        there (answered f u g s) = answered f (λ number place t. u number place (t.0, stop_now number place t.1)) (figure_old g) s

        back : OldRewardOutcome l a w → RewardOutcome l a w
        back (refused number place r e s) = refused number place r e s
        back (stopped number place f t e s) = stopped number place f (t.0, stop_now number place t.1) e s
        back (answered f u g s) = answered f (λ number place t. u number place (t.0, stop_old number place t.1)) (figure_now g) s

-- A first Reward is below 2 ^ 48: a state's reward and its edges' each earn at most 65,535 times the denominator.
pub first_reward_small : (l : Lent) → WellFormed paid l → (i : ℕ) → i < l.chain.states → earns paid l i < 2 ^ 48
first_reward_small l formed i h =
    let d = denominator l.chain i in
    let small : d ≤ M = denominator_small paid l formed i h in
    let own : reward_of l i * d ≤ most_reward * M = mul-le-mul (reward_small paid l formed refl i h) small in
    let edges : edge_rewards l.chain.edges i ≤ most_reward * d =
    subst (λ z. edge_rewards l.chain.edges i ≤ most_reward * z) (row_sum_lem paid l formed refl i h)
    (edge_rewards_most l.chain.edges i most_reward (edge_reward_small paid l formed refl)) in
    omega (arith, own, edges, small)
