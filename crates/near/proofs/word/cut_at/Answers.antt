use Rattle.std.proofs.Common.{arith}
use Rattle.near.proofs.Sums.{raised_digits}
use Rattle.near.proofs.word.cut_at.Goals as goal

pub returns : goal.returns
returns c =
    let a = c.args.a in
    let b = c.args.b in
    let x = raised_digits a.first a.behind c.requires.0.1 in
    let y = raised_digits b.first b.behind c.requires.1.1 in
    (omega (arith, x, y), omega arith, omega arith, omega arith)
