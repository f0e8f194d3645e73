use Rattle.std.proofs.Common.{arith}
use lib.Count.{leading_length}
use Rattle.theory.specs.Numbers.Binary.{digits_is}
use Rattle.near.proofs.word.digits_of.Goals as goal

pub returns : goal.returns
returns c =
    let l = leading_length 64 c.args.p (omega arith) in
    (omega (arith, c.from.ensures, digits_is c.args.p l.0 (l.2, l.3), l.1), omega arith)
