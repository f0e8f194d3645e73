-- What the figures mean. Fractions are stated in whole numbers: one denominator above 0 and a numerator for each state.
use Rattle.std.specs.Prelude.{ℕ, ◌+◌, ◌*◌, ◌<◌, ◌≡◌}
use Rattle.meaning.specs.Number.{Lowest}
use Rattle.meaning.specs.Chain.{Chain, denominator, along, edge_rewards, Goal, ToGoal, FromStart}

-- The chance at each state, x i over d: 1 on goals; 0 on states with no path to a goal; elsewhere denominator times x of the state equals
-- the sum of weight times x of the target.
pub record Shares (c : Chain) (d : ℕ) (x : ℕ → ℕ) : Type 0 where
  pub whole : 0 < d
  pub won : (i : ℕ) → i < c.states → Goal c i → x i ≡ d
  pub lost : (i : ℕ) → i < c.states → (ToGoal c i → ⊥) → x i ≡ 0
  pub flows : (i : ℕ) → i < c.states → (Goal c i → ⊥) → ToGoal c i → denominator c i * x i ≡ along c i x

-- The chance is x at the start: p over q, in lowest terms.
pub record Chance (c : Chain) (p q : ℕ) : Type 0 where
  pub lowest : Lowest p q
  pub share : (d : ℕ) (x : ℕ → ℕ) → Shares c d x → p * d ≡ x c.start * q

-- The expected reward is infinite: the start can reach, without passing a goal and in no or more steps, a state that has no path to a goal.
abbrev pub Missed : Chain → Type 0
Missed c = (i : ℕ) × FromStart c i × (ToGoal c i → ⊥)

-- What one turn in state i earns, times its denominator: the state's reward r i times the denominator, plus the sum of weight times reward
-- of the edges that leave it.
abbrev pub earned : Chain → (ℕ → ℕ) → ℕ → ℕ
earned c r i = r i * denominator c i + edge_rewards c.edges i

-- The expected reward at each state that is reached from the start without passing a goal, y i over d: 0 on goals; elsewhere denominator
-- times y equals what a turn earns, times its denominator, as pay says, plus the sum of weight times y of the target.
pub record Earns (c : Chain) (pay : ℕ → ℕ) (d : ℕ) (y : ℕ → ℕ) : Type 0 where
  pub whole : 0 < d
  pub won : (i : ℕ) → FromStart c i → Goal c i → y i ≡ 0
  pub flows : (i : ℕ) → FromStart c i → (Goal c i → ⊥) → denominator c i * y i ≡ pay i * d + along c i y

-- The expected reward, where it is not infinite, is y at the start: p over q, in lowest terms.
pub record Expected (c : Chain) (pay : ℕ → ℕ) (p q : ℕ) : Type 0 where
  pub lowest : Lowest p q
  pub share : (d : ℕ) (y : ℕ → ℕ) → Earns c pay d y → p * d ≡ y c.start * q
