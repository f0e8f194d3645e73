-- A figure as it is answered, and what the search for six digits asks.
use Rattle.std.specs.Prelude.{ℕ, ◌+◌, ◌^◌, ◌≤◌, ◌<◌}
use Rattle.meaning.specs.NearText.{most_number, most_twos, figure}
use Rattle.meaning.specs.NearText as meant
use Rattle.decimals.specs.declared.Figure.{Figure}

abbrev pub told : Figure → meant.Figure
told f = figure f.digits f.tens

-- A number between 0 and 1 that gets six digits.
pub record Six (p k : ℕ) : Type 0 where
  pub some : 0 < p
  pub small : p ≤ most_number + 1
  pub few : k ≤ most_twos
  pub less : p < 2 ^ k
