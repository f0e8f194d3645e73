-- The states passed over, as they are put behind the turns.
use Rattle.std.specs.Prelude.{ℕ, suc, ◌≡◌, Bool, List, [], ◌∷◌, ◌++◌, eqb, length, take}
use Rattle.meaning.specs.Number.{choose, bit}

-- Whether state i is in the set.
abbrev pub has : ℕ → ℕ → Bool
has set i = eqb (bit set i) 1

-- State i stands at place p, where it is not in the set, and r is the next place.
pub record Put (set i p : ℕ) (order : List ℕ) (r : ℕ) (new : List ℕ) : Type 0 where
  pub size : length new ≡ length order
  pub next : r ≡ choose (has set i) p (suc p)
  pub front : take r new ≡ choose (has set i) (take p order) (take p order ++ (i ∷ []))
