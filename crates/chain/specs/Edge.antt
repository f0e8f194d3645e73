-- A list of edges in which one edge is set.
use Rattle.std.specs.Prelude.{ℕ, ◌/◌, ◌%◌, List, eqb, ltb, length, get_or}
use Rattle.meaning.specs.Number.{choose, tab_from}
use Rattle.meaning.specs.Chain.{edge_size, edge_count}

-- The list with these numbers for edge e, all others as they were; the list itself where it has no edge e.
unfoldable pub placed : List ℕ → ℕ → List ℕ → List ℕ
placed edges e numbers =
    choose (ltb e (edge_count edges))
    (tab_from 0 (length edges) (λ j. choose (eqb (j / edge_size) e) (get_or numbers (j % edge_size) 0) (get_or edges j 0)))
    edges
