use native.Mathlib.Omega.{arith}
use borrow.Author.Rules.{rules}
use Rattle.meaning.specs.Report.{named_text}
use Rattle.meaning.specs.Text.{bytes_of}
use Rattle.meaning.specs.ChainText.{order_line}
use Rattle.meaning.specs.Translate.{shown_room}
use Rattle.text.proofs.Paging.{landed}
use Rattle.showing.specs.Print.{state_lines, edge_lines}
use Rattle.showing.proofs.Printing.{and, worded, all_parts}
use Rattle.showing.proofs.print.lines.Goals as goal

pub returns : goal.returns
returns c =
    let p = c.args.opened.now in
    let g = p.given in
    let n = c.count-count.result in
    let head = and (and c.count_line.ensures c.count_line-2.ensures) c.count_line-3.ensures in
    let whole = and (and (and head c.state_lines.ensures) c.order_line.ensures) c.edge_lines.ensures in
    let text = all_parts (named_text (bytes_of "states ") g.chain.states) (named_text (bytes_of "edges ") n) (named_text (bytes_of "start ") g.chain.start)
    (order_line p.order.now) (state_lines p g.chain.states) (edge_lines g.edges.now n) in
    let printed = worded {m = shown_room} text (omega (arith, c.requires, c.count-count.ensures)) whole in
    rw (← c.count-count.ensures) (landed (search rules) (printed.put (omega (arith, c.requires))).written)
