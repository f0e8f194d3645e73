use native.Mathlib.Omega.{arith}
use lib.ListN.{length-append}
use Rattle.text.proofs.fractions.width.Goals as goal

pub returns : goal.returns
returns c =
    let second = c.digits-2.ensures in
    let first = c.digits.ensures in
    (simp length-append (omega arith), omega arith)
