use mathlib.Core.Path.{◌∙◌}
use Rattle.chainfile.specs.Input.{input}
use Rattle.chainfile.proofs.Filling.{denominators_are, orders_are}
use Rattle.chainfile.proofs.fill.tables.Goals as goal
use Rattle.chainfile.proofs.fill.tables.Goals.{Start}

pub returns : goal.returns
returns c =
    let f = input c.args.kept.now 0 in
    let d = c.state_numbers.ensures ∙ denominators_are f c.args.denominators.now in
    let e = c.edge_numbers-count.ensures in
    let o = c.state_numbers-2.ensures ∙ orders_are f c.args.order.now in
    let r = c.state_numbers-3.ensures in
    (λ i. record { denominators = d i; edges = e.0 i; order = o i; rewards = r i }, e.1)
