-- The chance nearly: an elimination whose weights keep their highest 31 binary digits, and two fractions over one power of two around it.
use Rattle.std.specs.Prelude.{ℕ, zero, suc, ◌+◌, ◌-◌, ◌*◌, ◌/◌, ◌^◌, max, min, ◌≡◌, Bool, false, List, length, get_or, eqb, ltb}
use Rattle.std.specs.Int.Count.{count_leading_zeros}
use Rattle.meaning.specs.Number.{sum_to, only, choose, bit, tab_from}
use Rattle.meaning.specs.Chain.{Chain, Goal, ToGoal, Live}
use Rattle.meaning.specs.Row.{Row, cell, width, goal_column, over}
use Rattle.meaning.specs.Step.{Table, row, Sets, Right, given, no_row, combined, goes}
use Rattle.meaning.specs.Refusal.{Lent, plain}
use Rattle.meaning.specs.Outcome.{Outcome, BoundsStop}

-- How many binary digits a number has; none for 0. A number x is below 2 ^ x, so that x digits hold it.
unfoldable pub digits : ℕ → ℕ
digits x = x - count_leading_zeros x x

-- How many digits a number has beyond the highest 31; and the number with those 31 alone, and zeros for the others.
abbrev pub spare : ℕ → ℕ
spare x = digits x - 31

abbrev pub top : ℕ → ℕ
top x = x / 2 ^ spare x * 2 ^ spare x

-- The most digits that one of f 0, f 1, .., f (n - 1) has.
unfoldable pub longest : (ℕ → ℕ) → ℕ → ℕ
longest f zero = 0
longest f (suc n) = max (longest f n) (digits (f n))

-- The sum of f 0, f 1, .., f (n - 1), of each of which only the digits count that stand where the longest has its highest 56.
abbrev pub cut_sum : (ℕ → ℕ) → ℕ → ℕ
cut_sum f n = let k = longest f n - 56 in sum_to (λ j. f j / 2 ^ k) n * 2 ^ k

-- D nearly: the sum of the row of s in all columns but s, with its highest 31 digits.
unfoldable pub near_outside : ℕ → ℕ → Row → ℕ
near_outside n s p = top (cut_sum (λ j. choose (eqb j s) 0 (cell p j)) (width n))

-- The least spare of those of f 0, f 1, .., f (n - 1) that are above 0; b where none of them has less.
unfoldable pub least_spare : ℕ → (ℕ → ℕ) → ℕ → ℕ
least_spare b f zero = b
least_spare b f (suc n) = min (least_spare b f n) (choose (eqb (f n) 0) b (spare (f n)))

-- A row with a weight to s once s is removed, whose row is p: the weights of `combined` with their highest 31 digits.
unfoldable pub blended : ℕ → ℕ → Row → Row → Row
blended n s p r = tab_from 0 (length r) (λ j. top (cell (combined s (near_outside n s p) p r) j))

-- A row divided by 2 ^ k, where k is the least spare of its weights above 0.
unfoldable pub lowered : Row → Row
lowered r = over (2 ^ least_spare (longest (cell r) (length r)) (cell r) (length r)) r

-- The first table: the rows that the chain gives its live states.
unfoldable pub near_first : Chain → Sets → Table
near_first c k = tab_from 0 c.states (λ i. choose (eqb (bit k.live i) 1) (given c k (λ _. 0) 0 i) (no_row c.states))

-- The row r of state i is made anew where s is removed: that of another state, with a weight to s.
abbrev pub made_anew : ℕ → ℕ → Row → Bool
made_anew s i r = choose (eqb i s) false (ltb 0 (cell r s))

-- The table once s is removed.
unfoldable pub near_removed : ℕ → ℕ → Table → Table
near_removed n s t =
    tab_from 0 n (λ i. choose (eqb i s) (no_row n) (choose (made_anew s i (row t i)) (lowered (blended n s (row t s) (row t i))) (row t i)))

-- The table after the first p positions of the order o, and how many rows were made anew up to there.
unfoldable pub near_stage : Chain → Sets → List ℕ → ℕ → Table
near_stage c k o zero = near_first c k
near_stage c k o (suc p) =
    let t = near_stage c k o p in choose (goes c.start k.live (get_or o p 0)) (near_removed c.states (get_or o p 0) t) t

unfoldable pub rows_made : Chain → Sets → List ℕ → ℕ → ℕ
rows_made c k o zero = 0
rows_made c k o (suc p) =
    let here = sum_to (λ i. only (made_anew (get_or o p 0) i (row (near_stage c k o p) i)) 1) c.states in
    rows_made c k o p + only (goes c.start k.live (get_or o p 0)) here

-- What is answered: lower / 2 ^ twos and upper / 2 ^ twos; or a refusal's number and place, and noughts.
pub record Near : Type 0 where
  pub number : ℕ
  pub place : ℕ
  pub lower : ℕ
  pub upper : ℕ
  pub twos : ℕ

abbrev pub near : ℕ → ℕ → ℕ → ℕ → ℕ → Near
near number place lower upper twos = record { number = number; place = place; lower = lower; upper = upper; twos = twos }

-- From Goal and D of the start's last row. Of 2 ^ 30 parts s are sure: a row made anew loses hardly more than two, and D than one.
abbrev pub near_from : ℕ → ℕ → ℕ → Near
near_from G D rows =
    let k = 31 + digits D - digits G in
    let q = G * 2 ^ k / D in
    let s = 2 ^ 30 - (2 * rows + 2) in
    near 0 0 (q * s / 2 ^ 30) (min (((q + 1) * 2 ^ 30 + s - 1) / s) (2 ^ k)) k

abbrev pub near_live : Chain → Sets → List ℕ → Near
near_live c k o =
    let z = row (near_stage c k o c.states) c.start in
    near_from (cell z (goal_column c.states)) (near_outside c.states c.start z) (rows_made c k o c.states)

pub data NearFigure (l : Lent) (a : Near) : Type 0 where
  won : Goal l.chain l.chain.start → a ≡ near 0 0 1 1 0 → NearFigure l a
  lost : (ToGoal l.chain l.chain.start → ⊥) → a ≡ near 0 0 0 0 0 → NearFigure l a
  live : (k : Sets) → Right l.chain k → Live l.chain l.chain.start → a ≡ near_live l.chain k l.order → NearFigure l a

-- Refusals 1 to 10. Nothing stops it, and the work table is then cleared.
abbrev pub NearOutcome : Lent → Near → List ℕ → Type 0
NearOutcome l = Outcome plain l (λ number place. near number place 0 0 0) BoundsStop (NearFigure l)
