use mathlib.Core.Path.{◌≡◌}
use native.Mathlib.Omega.{arith}
use Rattle.chainwriter.proofs.Making.{no_blocks, more_blocks, blocks_at}
use Rattle.chainwriter.proofs.make.blocks.Goals as goal

pub loop-b-init : goal.loop-b-init
loop-b-init c = no_blocks

pub block-requires : goal.block-requires
block-requires c = omega (arith, c.loop-b.invariant.outside.size, c.requires)

pub loop-b-preserved : goal.loop-b-preserved
loop-b-preserved c = more_blocks c.loop-b.invariant c.block.ensures

pub shape_of-buffer : goal.shape_of-buffer
shape_of-buffer c = c.loop-b.invariant.outside.size

pub returns : goal.returns
returns c =
    let e : c.loop-b.b ≡ c.args.total = omega arith in
    blocks_at e c.loop-b.invariant
