-- Where the lines of a shown text stand. Lines are counted from 1, and entries of a list from 0.
use Rattle.std.specs.Prelude.{ℕ, suc, ◌+◌, ◌<◌, ◌≡◌, List, [], ◌∷◌, ◌++◌, length, get_or}
use Rattle.std.proofs.Common.{arith, ap, ◌∙◌, get_or-append-add}
use Rattle.std.proofs.Math.ListN.{get_or-append}
use Rattle.meaning.specs.Number.{tab_from}
use Rattle.meaning.specs.Chain.{edge_count}
use Rattle.meaning.specs.Refusal.{Lent}
use Rattle.meaning.specs.ChainText.{order_line, state_line_of, edge_line_of, chain_lines}
use Rattle.theory.specs.Numbers.Tab.{tab_at, tab_length}

module _ (l : Lent) where
  abbrev n : ℕ
  n = l.chain.states

  abbrev states : List (List ℕ)
  states = tab_from 0 n (state_line_of l)

  abbrev rest : List (List ℕ)
  rest = order_line l.order ∷ tab_from 0 (edge_count l.chain.edges) (edge_line_of l)

  -- Line k of a text is entry k - 1 of its lines.
  line_at : (j k : ℕ) → k ≡ suc (suc (suc j)) → get_or (chain_lines l) k [] ≡ get_or (states ++ rest) j []
  line_at j k e = ap (λ (k : ℕ). get_or (chain_lines l) k []) e

  past : (j k : ℕ) → j ≡ n + k → get_or (states ++ rest) j [] ≡ get_or rest k []
  past j k e =
      let long : length states ≡ n = tab_length 0 n (state_line_of l) in
      let same : j ≡ length states + k = omega arith in
      ap (λ (j : ℕ). get_or (states ++ rest) j []) same ∙ get_or-append-add states rest k []

  -- State i stands on line i + 4.
  pub state_at_lem : (i : ℕ) → i < n → get_or (chain_lines l) (i + 3) [] ≡ state_line_of l i
  state_at_lem i h =
      line_at i (i + 3) (omega arith)
      ∙ get_or-append states rest [] i (omega (arith, tab_length 0 n (state_line_of l)))
      ∙ tab_at n (state_line_of l) [] i h

  -- The order stands on line n + 4.
  pub order_at : get_or (chain_lines l) (n + 3) [] ≡ order_line l.order
  order_at = line_at n (n + 3) (omega arith) ∙ past n 0 (omega arith)

  -- Edge e stands on line n + 5 + e.
  pub edge_at_lem : (e : ℕ) → e < edge_count l.chain.edges → get_or (chain_lines l) (n + 4 + e) [] ≡ edge_line_of l e
  edge_at_lem e h =
      line_at (suc (n + e)) (n + 4 + e) (omega arith)
      ∙ past (suc (n + e)) (suc e) (omega arith)
      ∙ tab_at (edge_count l.chain.edges) (edge_line_of l) [] e h
