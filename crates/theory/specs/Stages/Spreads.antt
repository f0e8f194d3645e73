-- The totals of rows that are rounded at each step: at most 2 ^ 2048 times a weight above 0, and below 2 ^ 2079.
use Rattle.std.specs.Prelude.{ℕ, ◌+◌, ◌*◌, ◌^◌, ◌≤◌, ◌<◌, ◌≡◌, length}
use Rattle.std.proofs.Common.{ap, ⊎_elim, arith, le_trans, mul-le-mul_left, eq-eqb, ne_eqb}
use Rattle.meaning.specs.Number.{sum_to}
use Rattle.meaning.specs.Chain.{M, Chain, denominator}
use Rattle.meaning.specs.Row.{cell}
use Rattle.meaning.specs.Step.{Table, row, Sets, Right, outside, combined, given}
use Rattle.theory.specs.Numbers.Sum.{same, below, sum_ext, sum_scale, sum_next}
use Rattle.theory.specs.Numbers.Trimmed.{Trimmed}
use Rattle.theory.specs.Figures.Spread.{Spread, Hands, beyond, handing, spread_first, spread_last}
use Rattle.theory.specs.Numbers.Powers.{power_twos, total_below}
use Rattle.theory.specs.Chains.Fine.{Fine}
use Rattle.theory.specs.Rows.Relation.{combined_cell, combined_own}
use Rattle.theory.specs.Stages.Given.{LiveRow, given_total}

-- A row is f times one whose total is at most M.
times_first : (M m f : ℕ) (x u : ℕ → ℕ) → ((j : ℕ) → j < m → f * u j ≡ x j) → sum_to u m ≤ M
    → (j : ℕ) → j < m → 0 < x j → sum_to x m ≤ x j * M
times_first M m f x u times small j h some =
    let a : sum_to (λ j. f * u j) m ≡ sum_to x m = sum_ext _ _ m times in
    let b : f * M ≤ x j * M =
    ⊎_elim
    (λ (l : 0 < u j). omega (arith, mul-le-mul_left (f * M) l, ap (λ z. z * M) (times j h)))
    (λ (l : u j ≤ 0).
    let z : u j ≡ 0 = omega arith in
    absurd (omega (arith, rw z at (times j h))))
    (below 0 (u j)) in
    omega (arith, a, b, sum_scale f u m, mul-le-mul_left f small)

-- The weights of a table: those to states, to Goal and to Trap.
abbrev pub cells : Table → ℕ → ℕ → ℕ
cells t i j = cell (row t i) j

-- A table whose live rows are those given, f times over.
pub cells_first : (c : Chain) (k : Sets) → Fine c → Right c k → ((i : ℕ) → i < c.states → denominator c i ≤ M) → (e R f : ℕ) (t : Table)
    → ((i : ℕ) → LiveRow c k i → (j : ℕ) → j < c.states + 2 → f * cell (given c k (λ _. 0) 0 i) j ≡ cell (row t i) j)
    → Spread e R M c.states (c.states + 2) (cells t) (LiveRow c k) (cells t) 0
cells_first c k fine ok small e R f t rows =
    let n : ℕ = c.states in
    spread_first e R M n (n + 2) (cells t) (LiveRow c k) (λ i j q.
    let u : ℕ → ℕ = cell (given c k (λ _. 0) 0 i) in
    times_first M (n + 2) f (cells t i) u (rows i q)
    (omega (arith, sum_next u (n + 2) (n + 3) (omega arith), given_total c k (λ _. 0) fine ok i q, small i q.0))
    j)

-- A new row whose columns, f times over, are those of a step, rounded.
module _ (n s : ℕ) (t : Table) (inside : s < n) (unknown_none : cell (row t s) (n + 2) ≡ 0) (i : ℕ) (wide : length (row t i) ≡ n + 4) where
  cells_beyond : beyond (cells t) (n + 2) s ≡ outside n s (row t s)
  cells_beyond =
      let a : sum_to (cells t s) (n + 2) ≡ sum_to (cells t s) (n + 3) = omega (arith, sum_next (cells t s) (n + 2) (n + 3) (omega arith)) in
      rw a

  cells_handing : (j : ℕ) → j < n + 2 → handing (cells t) (n + 2) s i j ≡ cell (combined s (outside n s (row t s)) (row t s) (row t i)) j
  cells_handing j h =
      ⊎_elim
      (λ (q : j ≡ s). rw (eq-eqb j s q, q, combined_own s (outside n s (row t s)) (row t s) (row t i) (omega arith)))
      (λ (q : j ≡ s → ⊥).
      rw (ne_eqb j s q, combined_cell s (outside n s (row t s)) (row t s) (row t i) j (omega arith) q, cells_beyond))
      (same j s)

  pub cells_hand : (e R f : ℕ) → 0 < f → (t' : Table)
      → ((j : ℕ) → j < n + 2 → Trimmed e R (cell (combined s (outside n s (row t s)) (row t s) (row t i)) j) (f * cell (row t' i) j))
      → Hands e R (cells t) (cells t') (n + 2) s i
  cells_hand e R f some t' T = record { c = f; some = some; new = λ j h. rw (cells_handing j h) (T j h) }

-- In a table of up to 64 states the total of a kept row is at most 2 ^ 2048 times any of its weights above 0. So where one of these has
-- at most 31 binary digits, the total is below 2 ^ 2079.
module _ (e R n : ℕ) (rough : R < e) (few : n ≤ 64) (v : ℕ → ℕ → ℕ) (Kept : ℕ → Type 0) (t : Table) (p : ℕ)
    (S : Spread e R M n (n + 2) v Kept (cells t) p) (small : 2 * p * R ≤ e) (room : p < n) (i j : ℕ) (kept : Kept i)
    (h : j < n + 2) (some : 0 < cell (row t i) j)
  where
    cells_last : sum_to (cell (row t i)) (n + 2) ≤ cell (row t i) j * 2 ^ 2048
    cells_last =
        le_trans
        (spread_last e R M n (n + 2) rough (omega arith) v Kept (cells t) p n S small room i j kept h some)
        (mul-le-mul_left (cell (row t i) j) (power_twos 32 M n 2048 (omega arith) (omega arith)))

    pub cells_below : cell (row t i) j < 2 ^ 31 → sum_to (cell (row t i)) (n + 2) < 2 ^ 2079
    cells_below low = total_below 2048 31 (cell (row t i) j) (sum_to (cell (row t i)) (n + 2)) cells_last low
