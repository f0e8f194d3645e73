-- What is read from a line.
use Rattle.std.specs.Prelude.{ℕ, ◌^◌, ◌≤◌, ◌<◌, ◌≡◌, Bool, List, [], length, get_or, take, drop, Option, Some, None}
use Rattle.meaning.specs.Number.{choose}
use Rattle.meaning.specs.Chain.{most_reward}
use Rattle.meaning.specs.Text.{bytes_of}
use Rattle.meaning.specs.Report.{named_text}
use Rattle.meaning.specs.ChainText.{state_line, order_line, edge_line}
use Rattle.chaintext.specs.declared.lines.EdgeLine.{EdgeLine}
use Rattle.chaintext.specs.declared.lines.StateLine.{StateLine}

-- The numbers of an edge are in the ranges of their fields.
pub record EdgeFits (source target weight reward : ℕ) : Type 0 where
  pub source_fits : source < 256
  pub target_fits : target < 256
  pub weight_fits : weight < 2 ^ 32
  pub reward_fits : reward ≤ most_reward

pub record IsEdge (line : List ℕ) (source target weight reward : ℕ) : Type 0 where
  pub fits : EdgeFits source target weight reward
  pub line_is : line ≡ edge_line source target weight reward

-- A line is the line of an edge, or of none.
abbrev pub edge_read : List ℕ → Option EdgeLine → Type 0
edge_read line (Some e) = IsEdge line e.from e.to e.weight e.reward
edge_read line None = (source target weight reward : ℕ) → IsEdge line source target weight reward → ⊥

pub record EdgeRead (line : List ℕ) (r : Option EdgeLine) : Type 0 where
  pub told : edge_read line r

-- The line of a number after its name.
pub record IsCount (line name : List ℕ) (least limit x : ℕ) : Type 0 where
  pub low : least ≤ x
  pub high : x ≤ limit
  pub line_is : line ≡ named_text name x

abbrev pub count_read : List ℕ → List ℕ → ℕ → ℕ → Option ℕ → Type 0
count_read line name least limit (Some x) = IsCount line name least limit x
count_read line name least limit None = (x : ℕ) → IsCount line name least limit x → ⊥

pub record CountRead (line name : List ℕ) (least limit : ℕ) (r : Option ℕ) : Type 0 where
  pub told : count_read line name least limit r

-- What stands after a state's numbers.
abbrev pub rest_read : List ℕ → ℕ → Option Bool → Type 0
rest_read line place (Some goal) = drop place line ≡ choose goal (bytes_of " goal") []
rest_read line place None = (goal : Bool) → drop place line ≡ choose goal (bytes_of " goal") [] → ⊥

pub record RestRead (line : List ℕ) (place : ℕ) (r : Option Bool) : Type 0 where
  pub told : rest_read line place r

-- The line of state i.
pub record IsState (line : List ℕ) (i denominator reward : ℕ) (goal : Bool) : Type 0 where
  pub denominator_fits : denominator < 2 ^ 32
  pub reward_fits : reward ≤ most_reward
  pub line_is : line ≡ state_line i denominator reward goal

abbrev pub state_read : List ℕ → ℕ → Option StateLine → Type 0
state_read line i (Some s) = IsState line i s.denominator s.reward s.goal
state_read line i None = (denominator reward : ℕ) (goal : Bool) → IsState line i denominator reward goal → ⊥

pub record StateRead (line : List ℕ) (i : ℕ) (r : Option StateLine) : Type 0 where
  pub told : state_read line i r

-- The line of an order of n numbers.
pub record IsOrder (line : List ℕ) (n : ℕ) (order : List ℕ) : Type 0 where
  pub long : length order ≡ n
  pub fits : (p : ℕ) → get_or order p 0 < 256
  pub line_is : line ≡ order_line order

-- The table has it at its front, and is the same past it.
pub record OrderFilled (line : List ℕ) (n : ℕ) (before after : List ℕ) : Type 0 where
  pub same : length after ≡ length before
  pub past : drop n after ≡ drop n before
  pub order : IsOrder line n (take n after)

abbrev pub order_read : List ℕ → ℕ → List ℕ → List ℕ → Option Unit → Type 0
order_read line n before after (Some u) = OrderFilled line n before after
order_read line n before after None = (order : List ℕ) → IsOrder line n order → ⊥

pub record OrderRead (line : List ℕ) (n : ℕ) (before after : List ℕ) (r : Option Unit) : Type 0 where
  pub told : order_read line n before after r
