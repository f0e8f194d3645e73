use mathlib.Core.Path.{refl}
use borrow.Author.Rules.{rules}
use Rattle.egorstream.proofs.nearly.shown.Goals as goal

pub returns : goal.returns
returns c = record { lower = refl; upper = refl; twos = search rules; below = c.lower-low.ensures; above = c.upper-high.ensures }
