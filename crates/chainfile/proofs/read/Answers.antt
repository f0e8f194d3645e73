use Rattle.meaning.specs.File.{Short}
use Rattle.theory.specs.Numbers.Decide.{fails}
use Rattle.chainfile.specs.Tells.{tables}
use Rattle.chainfile.proofs.Opening.{read_whole}
use Rattle.chainfile.proofs.read.Goals as goal

pub returns : goal.returns
returns c =
    let a = c.args in
    let before = tables a.denominators.now a.edges.now a.order.now a.rewards.now in
    read_whole before (fails (Short before) c.short.ensures c.if-short.false) c.open_file.ensures
