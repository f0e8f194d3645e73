-- A step: the first rows, the removal of a state, and the table after each position of the order.
-- A table has a row for each state. Only live rows are kept: the rows of all other states are zero.
use Rattle.std.specs.Prelude.{ℕ, zero, suc, ◌+◌, ◌*◌, ◌-◌, ◌<◌, ◌≡◌, ◌↔◌, Bool, true, false, List, [], length, get_or, eqb, ltb}
use Rattle.meaning.specs.Number.{only, choose, bit, tab_from}
use Rattle.meaning.specs.Chain.{M, Chain, along, missing, Goal, PathTo, LiveTo}
use Rattle.meaning.specs.Row.{
  Row,
  cell,
  width,
  goal_column,
  trap_column,
  unknown_column,
  total,
  lowest,
  settled,
  rounding,
}

-- A table is the list of its rows, and row i is that of state i.
abbrev pub Table : Type 0
Table = List Row

abbrev pub row : Table → ℕ → Row
row t i = get_or t i []

-- Two sets of states, each written as one number: those with a path to an end, and the live ones.
pub record Sets : Type 0 where
  pub good : ℕ
  pub live : ℕ

-- The sets are the chain's own: the states with a path to an end, and the live ones.
pub record RightTo (c : Chain) (End : ℕ → Type 0) (k : Sets) : Type 0 where
  pub good : (i : ℕ) → (bit k.good i ≡ 1) ↔ PathTo c.edges End i
  pub live : (i : ℕ) → (bit k.live i ≡ 1) ↔ LiveTo c End i

-- The ends are the goals.
abbrev pub Right : Chain → Sets → Type 0
Right c k = RightTo c (Goal c) k

-- The row of a live state as the chain gives it: the weight to each live state, to goals, to states with no path to an end; u in Unknown;
-- and in Reward what one turn in the state earns, times its denominator, as pay says.
unfoldable pub given : Chain → Sets → (ℕ → ℕ) → ℕ → ℕ → Row
given c k pay u i =
    tab_from 0 (width c.states)
    (λ j. choose (ltb j c.states) (only (eqb (bit k.live j) 1) (along c i (λ t. only (eqb t j) 1)))
    (choose (eqb j (goal_column c.states)) (along c i (bit c.goals))
    (choose (eqb j (trap_column c.states)) (along c i (λ t. 1 - bit k.good t))
    (choose (eqb j (unknown_column c.states)) u (pay i)))))

-- The first row of a live state: what the chain gives, divided likewise, and in the bounds engine rounded where its total is above M.
abbrev pub first_row : Bool → Chain → Sets → (ℕ → ℕ) → ℕ → ℕ → Row
first_row b c k pay u i = settled b c.states (given c k pay u i)

-- The row of a state that is not kept.
unfoldable pub no_row : ℕ → Row
no_row n = tab_from 0 (width n) (λ _. 0)

-- The first table; u i is Unknown of the first row of i.
unfoldable pub first : Bool → Chain → Sets → (ℕ → ℕ) → (ℕ → ℕ) → Table
first b c k pay u =
    tab_from 0 c.states (λ i. choose (eqb (bit k.live i) 1) (first_row b c k pay (u i) i) (no_row c.states))

-- D: the total of the row of state s minus its weight to itself.
abbrev pub outside : ℕ → ℕ → Row → ℕ
outside n s p = total n p - cell p s

-- A row with a weight to s once s is removed, before it is settled; p is the row of s. In each column but s: old weight times d, which is
-- the D of s, plus the weight to s times the weight of s in that column.
unfoldable pub combined : ℕ → ℕ → Row → Row → Row
combined s d p r = tab_from 0 (length r) (λ j. choose (eqb j s) 0 (cell r j * d + cell r s * cell p j))

-- A row once s is removed: no row is left of s itself, where `own` holds, and a row with no weight to s stays.
unfoldable pub renewed : Bool → ℕ → ℕ → ℕ → Row → Bool → Row → Row
renewed b n s d p own r = choose own (no_row n) (choose (eqb (cell r s) 0) r (settled b n (combined s d p r)))

-- The table once s is removed.
unfoldable pub removed : Bool → ℕ → ℕ → Table → Table
removed b n s t = tab_from 0 n (λ i. renewed b n s (outside n s (row t s)) (row t s) (eqb i s) (row t i))

-- Whether a state is removed at its turn: the start, the goals and states that are not live are passed over.
abbrev pub goes : ℕ → ℕ → ℕ → Bool
goes start live s = choose (eqb s start) false (eqb (bit live s) 1)

-- The table t after the first p positions of the order o.
unfoldable pub after : Bool → ℕ → (ℕ → Bool) → List ℕ → Table → ℕ → Table
after b n go o t zero = t
after b n go o t (suc p) = choose (go (get_or o p 0)) (removed b n (get_or o p 0) (after b n go o t p)) (after b n go o t p)

-- The table of a chain after the first p positions of the order o; u i is Unknown of the first row of i.
abbrev pub stage_from : Bool → Chain → Sets → (ℕ → ℕ) → (ℕ → ℕ) → List ℕ → ℕ → Table
stage_from b c k pay u o p = after b c.states (goes c.start k.live) o (first b c k pay u) p

-- Unknown of the first row of i: what is missing from it, where rows may fall short.
abbrev pub unknown : Bool → Chain → ℕ → ℕ
unknown short c i = only short (missing c i)

-- No weight is Unknown at first.
abbrev pub stage : Bool → Chain → Sets → (ℕ → ℕ) → List ℕ → ℕ → Table
stage b c k pay o p = stage_from b c k pay (λ _. 0) o p

-- The lowest terms of a new row have a total above M, so that the bounds engine rounds it.
abbrev pub Rounds : ℕ → Row → Type 0
Rounds n r = M < total n (lowest r)

-- A row of the bounds engine's table after p positions was rounded when it was made: as a first row, or in the step of position p - 1.
pub data RoundedAt (c : Chain) (k : Sets) (pay : ℕ → ℕ) (o : List ℕ) : ℕ → Type 0 where
  first_row_lem : (i : ℕ) → i < c.states → bit k.live i ≡ 1 → Rounds c.states (given c k pay 0 i) → RoundedAt c k pay o 0
  new_row : (p i : ℕ) → i < c.states
      → (let n = c.states in
      let s = get_or o p 0 in
      let t = stage rounding c k pay o p in
      (goes c.start k.live s ≡ true)
      × ((i ≡ s → ⊥) × ((cell (row t i) s ≡ 0 → ⊥) × Rounds n (combined s (outside n s (row t s)) (row t s) (row t i)))))
      → RoundedAt c k pay o (suc p)
