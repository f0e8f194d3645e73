use Rattle.std.proofs.Common.{arith, rules}
use Rattle.near.proofs.Parts.{parted_none, parted_parts, parted_joined}
use Rattle.near.proofs.row.parts.Goals as goal

pub loop-j-init : goal.loop-j-init
loop-j-init c = parted_none

pub returns : goal.returns
returns c = (parted_parts c.loop-j.invariant (search rules) (omega arith), parted_joined c.loop-j.invariant (search rules) (omega arith))
