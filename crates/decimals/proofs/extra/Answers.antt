use native.Mathlib.Omega.{arith}
use lib.Count.{leading_length}
use Rattle.theory.specs.Numbers.Binary.{digits_is}
use Rattle.decimals.proofs.extra.Goals as goal

pub returns : goal.returns
returns c =
    let l = leading_length 64 c.args.t (omega arith) in
    let e = digits_is c.args.t l.0 (l.2, l.3) in
    (omega (arith, e, l.1), omega arith)
