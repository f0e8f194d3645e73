use Prim.Native.Nat.{ℕ, ◌+◌}
use mathlib.Core.Path.{◌≡◌, refl, ◌∙◌}
use native.Mathlib.Omega.{arith}
use lib.Dec.{eqb}
use lib.ListN.{length}
use borrow.Author.Rules.{rules}
use borrow.Author.Tests.{tests}
use Rattle.std.specs.List.{filter, range_with_len}
use Rattle.std.proofs.lemmas.Iterator.{YieldsList-from_range}
use Rattle.std.proofs.lemmas.Iterator.Consumers.{YieldsList-from_filter, YieldsList-at, count_from_yields_List}
use Rattle.std.proofs.lemmas.List.Sums.{length-filter, count_by-le-length}
use Rattle.std.proofs.lemmas.List.FromFn.{length-range_with_len}
use Rattle.choice.specs.Columns.{counts}
use Rattle.choice.proofs.Weights.{columns_counted}
use Rattle.choice.proofs.columns.columns_of.Goals as goal

pub returns : goal.returns
returns c =
    let a = c.args in
    let test : ℕ → _ = λ j. eqb (counts a.columns.now a.s j) 1 in
    let all = range_with_len 0 (a.n + 2) in
    let counted : c.count.result ≡ length (filter test all) =
    count_from_yields_List c.filter.result c.count.result c.count.ensures.ran
    (YieldsList-from_filter _ test (YieldsList-at c.filter.ensures.source (YieldsList-from_range 0 (a.n + 2) (a.n + 2) refl (omega arith))) c.filter.ensures.closure (λ x r q k. search (rules, tests))) in
    (counted ∙ columns_counted a.n a.s a.columns.now, omega (arith, counted, length-filter test all, count_by-le-length test all, length-range_with_len 0 (a.n + 2), c.requires))
