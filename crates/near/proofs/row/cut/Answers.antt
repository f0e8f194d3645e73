use Rattle.std.proofs.Common.{arith}
use Rattle.near.specs.Word.{value}
use Rattle.theory.specs.Numbers.Binary.{cut_small}
use Rattle.near.proofs.row.cut.Goals as goal

pub part-requires : goal.part-requires
unfolding value
part-requires c = omega arith

pub returns : goal.returns
unfolding value
returns c =
    let a = c.args in
    (c.part.ensures.0, omega (arith, c.part.ensures.0, cut_small (value a.w) a.k 56 c.requires))
