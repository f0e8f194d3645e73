-- What is written of a chain's text.
use Rattle.std.specs.Prelude.{ℕ, ◌+◌, ◌≤◌, ◌≡◌, List, eqb, get_or, length}
use Rattle.meaning.specs.Number.{bit, tab_from}
use Rattle.meaning.specs.Chain.{from, to, weight, edge_reward}
use Rattle.meaning.specs.ChainText.{state_line, edge_line}
use Rattle.octets.specs.Written.{Written}
use Rattle.opening.specs.declared.book.Opened.{Opened}
use Rattle.text.specs.declared.page.Page.{Page}

-- A text is written from the place on, and is at most so long.
pub record Put (before : List ℕ) (place : ℕ) (text : List ℕ) (room : ℕ) (after : List ℕ) (next : ℕ) : Type 0 where
  pub written : Written before place text after next
  pub near : next ≤ place + room

-- A step on a page: it is the same buffer; and where there is so much room from the place on, the text is written, and is at most so long.
pub record Fits (old : Page) (text : List ℕ) (room : ℕ) (new : Page) : Type 0 where
  pub same : new.buffer.ghost_name ≡ old.buffer.ghost_name
  pub put : old.at + room ≤ length old.buffer.now → Put old.buffer.now old.at text room new.buffer.now new.at

-- The line of state i, and those of the first n states.
abbrev pub state_line_of : Opened → ℕ → List ℕ
state_line_of p i = state_line i (get_or p.given.denominators.now i 0) (get_or p.rewards.now i 0) (eqb (bit p.given.chain.goals i) 1)

abbrev pub state_lines : Opened → ℕ → List (List ℕ)
state_lines p n = tab_from 0 n (state_line_of p)

-- The line of edge e, and those of the first n edges.
abbrev pub edge_line_of : List ℕ → ℕ → List ℕ
edge_line_of es e = edge_line (from es e) (to es e) (weight es e) (edge_reward es e)

abbrev pub edge_lines : List ℕ → ℕ → List (List ℕ)
edge_lines es n = tab_from 0 n (edge_line_of es)
