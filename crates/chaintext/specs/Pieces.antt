-- What stands in a line from a place on.
use Rattle.std.specs.Prelude.{ℕ, ◌≤◌, ◌≡◌, List, ◌++◌, length, drop, eqb, Option, Some, None}
use Rattle.meaning.specs.Number.{choose}
use Rattle.meaning.specs.Report.{named_text}
use Rattle.theory.specs.Numbers.Cut.{Ended}

-- The piece stands from the place on, and the line goes on at the next place.
pub record Stands (line : List ℕ) (place : ℕ) (piece : List ℕ) (next : ℕ) : Type 0 where
  pub inside : next ≤ length line
  pub cut : drop place line ≡ piece ++ drop next line

-- A word stands there, or it does not.
abbrev pub found : List ℕ → ℕ → List ℕ → Option ℕ → Type 0
found line place word (Some next) = Stands line place word next
found line place word None = (rest : List ℕ) → drop place line ≡ word ++ rest → ⊥

pub record WordRead (line : List ℕ) (place : ℕ) (word : List ℕ) (r : Option ℕ) : Type 0 where
  pub told : found line place word r

-- A number of at most the limit after its name, with no digit after it.
pub record NumberAt (line : List ℕ) (place : ℕ) (name : List ℕ) (limit x next : ℕ) : Type 0 where
  pub stands : Stands line place (named_text name x) next
  pub ends : Ended (drop next line)
  pub small : x ≤ limit

abbrev pub numbered : List ℕ → ℕ → List ℕ → ℕ → Option (ℕ × ℕ) → Type 0
numbered line place name limit (Some p) = NumberAt line place name limit p.0 p.1
numbered line place name limit None =
    (x : ℕ) (rest : List ℕ) → x ≤ limit → Ended rest → drop place line ≡ named_text name x ++ rest → ⊥

pub record NumberRead (line : List ℕ) (place : ℕ) (name : List ℕ) (limit : ℕ) (r : Option (ℕ × ℕ)) : Type 0 where
  pub told : numbered line place name limit r

-- A number of no digits is none.
abbrev pub ended : ℕ → ℕ → ℕ → Option (ℕ × ℕ)
ended place end x = choose (eqb end place) None (Some (x, end))
