use mathlib.Core.List.{[]}
use borrow.Author.Rules.{rules}
use Rattle.meaning.specs.Refusal.{with_list}
use Rattle.chain.specs.Given.{with}
use Rattle.engines.proofs.Traces.{traced}
use Rattle.engines.proofs.entry.trace.Goals as goal

pub returns : goal.returns
returns c =
    let a = c.args in
    let l = with_list a.list (with a.g.now a.order.now [] a.work.now) in
    rw c.chance_of.ensures (traced l _ _ (search rules) _ c.with_steps-noted.ensures)
