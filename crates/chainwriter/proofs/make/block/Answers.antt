use native.Mathlib.Omega.{arith}
use Rattle.chainwriter.proofs.Making.{made}
use Rattle.chainwriter.proofs.make.block.Goals as goal

pub records-requires : goal.records-requires
records-requires c = omega (arith, c.front.ensures.outside.size, c.begin-begin.ensures.1)

pub check-requires : goal.check-requires
check-requires c = omega (arith, c.requires, c.front.ensures.outside.size, c.records.ensures.outside.size)

pub returns : goal.returns
returns c =
    made c.front.ensures c.records.ensures c.check.ensures c.kind-kind.ensures c.count-count.ensures.0
    c.begin-begin.ensures.0
