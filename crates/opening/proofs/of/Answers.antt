use Rattle.std.proofs.Common.{rules}
use Rattle.std.proofs.lemmas.Result.{err_from_is_err_and}
use Rattle.chainfile.specs.Input.{input}
use Rattle.opening.proofs.Reading.{refused_read, chain_read}
use Rattle.opening.proofs.of.Goals as goal

pub returns-in_err-book : goal.returns-in_err-book
returns-in_err-book c =
    let p = err_from_is_err_and c.from_residual.result c.from_residual.ensures.1 in
    rw (p.1, p.2) (refused_read (input c.args.kept.now c.args.more) c.args.table.now (search rules) c.in_err-book.ensures)

pub returns : goal.returns
returns c = chain_read (input c.args.kept.now c.args.more) c.args.table.now (search rules) c.in_ok-book.ensures c.states.ensures
