use Rattle.std.proofs.Common.{rules, tests, arith, sym, subst}
use Rattle.std.proofs.lemmas.Iterator.{YieldsList-from_range}
use Rattle.std.proofs.lemmas.Iterator.Consumers.{nth_from_yields_List, YieldsList-from_filter}
use Rattle.meaning.specs.Salvage.{edge_kept, verdict}
use Rattle.chainfile.specs.Input.{input}
use Rattle.chainfile.specs.Index.{Whole}
use Rattle.chainfile.proofs.Counting.{entry_whole}
use Rattle.chainfile.proofs.index.whole.Goals as goal

pub returns : goal.returns
returns c =
    let f = input c.args.kept.now 0 in
    let v = verdict c.args.lost.now in
    let e = nth_from_yields_List c.nth.result c.nth.new.self c.args.j c.nth.ensures.ran
    (YieldsList-from_filter _ (edge_kept f v) (YieldsList-from_range 0 c.edges-count.result c.edges-count.result c.filter.ensures.source (omega arith)) c.filter.ensures.closure (λ x b q k. search (rules, tests))) in
    subst (Whole f v c.args.j) (sym c.unwrap_or.ensures) (entry_whole c.edges-count.result c.nth.result c.edges-count.ensures.0 e)
