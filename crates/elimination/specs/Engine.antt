-- The engines by name: what each asks of an input, and what is told of it.
use Rattle.std.specs.Prelude.{Bool, true, false, List, [], ℕ}
use Rattle.meaning.specs.Number.{choose}
use Rattle.meaning.specs.Row.{exact, rounding}
use Rattle.meaning.specs.Refusal.{Entry, eliminating}
use Rattle.elimination.specs.declared.engine.Engine.{Engine}
use Rattle.elimination.specs.declared.engine.Engine.TheVariants.{Chance, Reward, Bounds, Left}

-- Its rows are rounded where they do not fit.
abbrev pub rounds : Engine → Bool
rounds Chance = exact
rounds Reward = exact
rounds Bounds = rounding
rounds Left = rounding

-- A turn earns rewards.
abbrev pub is_paid : Engine → Bool
is_paid Chance = false
is_paid Reward = true
is_paid Bounds = false
is_paid Left = false

-- Rows may fall short.
abbrev pub is_short : Engine → Bool
is_short Chance = false
is_short Reward = false
is_short Bounds = false
is_short Left = true

-- What it asks of an input, with no step list.
abbrev pub asks : Engine → Entry
asks g = eliminating (is_paid g) false (is_short g)

-- The rewards that it reads: none where a turn earns nothing.
abbrev pub read_by : Bool → List ℕ → List ℕ
read_by paid rewards = choose paid rewards []
