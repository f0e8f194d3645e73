-- What the equations of a chain ask of it.
use Rattle.std.specs.Prelude.{ℕ, ◌+◌, ◌<◌, ◌≡◌}
use Rattle.std.proofs.Common.{arith}
use Rattle.meaning.specs.Chain.{Chain, denominator, edge_count, to, weight, row_sum, FromStart}

-- What the equations ask of a chain: less than that it is well formed.
pub record Fine (c : Chain) : Type 0 where
  pub targets : (e : ℕ) → e < edge_count c.edges → to c.edges e < c.states
  pub weights : (e : ℕ) → e < edge_count c.edges → 0 < weight c.edges e
  pub sums : (i : ℕ) → i < c.states → row_sum c.edges i ≡ denominator c i

-- The same of a chain whose rows may fall short: u i is what is missing from the row of i.
pub record FineTo (c : Chain) (u : ℕ → ℕ) : Type 0 where
  pub targets : (e : ℕ) → e < edge_count c.edges → to c.edges e < c.states
  pub weights : (e : ℕ) → e < edge_count c.edges → 0 < weight c.edges e
  pub sums : (i : ℕ) → i < c.states → row_sum c.edges i + u i ≡ denominator c i

-- Where nothing is missing.
pub fine_whole : {c : Chain} → Fine c → FineTo c (λ _. 0)
fine_whole f = record { targets = f.targets; weights = f.weights; sums = λ i h. omega (arith, f.sums i h) }

-- What is reached is a state.
pub reached_to : {c : Chain} {u : ℕ → ℕ} {i : ℕ} → FineTo c u → c.start < c.states → FromStart c i → i < c.states
reached_to fine h FromStart.begin = h
reached_to fine h (FromStart.step e l f n) = fine.targets e l

pub reached_state : {c : Chain} {i : ℕ} → Fine c → c.start < c.states → FromStart c i → i < c.states
reached_state fine = reached_to (fine_whole fine)
