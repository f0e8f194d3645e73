use Rattle.std.proofs.Common.{ℕ, ◌*◌, ◌<◌, ◌≡◌, List, [], length, take, drop, ltb, sym, ap, ◌∙◌, arith, length-drop}
use lib.Seq.{take_all}
use borrow.Author.Tests.{lt-ltb}
use Rattle.meaning.specs.Number.{choose}
use Rattle.meaning.specs.Chain.{edge_size, edge_count}
use Rattle.opening.specs.Sizes.{edges_at}
use Rattle.opening.specs.Book.{edges_of}
use Rattle.chainfile.specs.declared.Book.{Book}
use Rattle.opening.proofs.parts.edges.Goals as goal

none : (b : Book) (table rest : List ℕ) → rest ≡ take (length table) (drop edges_at table) → edge_count rest < b.edges → [] ≡ edges_of b table
none b table rest e h =
    let all : rest ≡ drop edges_at table = e ∙ take_all (length table) (drop edges_at table) (omega (arith, length-drop edges_at table)) in
    sym (ap (λ t. choose t [] (take (edge_size * b.edges) (drop edges_at table))) (ap (λ l. ltb (edge_count l) b.edges) (sym all) ∙ lt-ltb (edge_count rest) b.edges h))

pub returns-then-count : goal.returns-then-count
returns-then-count c =
    let a = c.args in
    none a.book a.table.now c.part-rest.result.now c.part-rest.ensures (omega (arith, c.count.ensures))
