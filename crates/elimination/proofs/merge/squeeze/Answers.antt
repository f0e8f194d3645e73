use native.Mathlib.Omega.{arith}
use Rattle.elimination.proofs.Replacing.{none_modest, none_room, none_spread, squeezed}
use Rattle.elimination.proofs.merge.squeeze.Goals as goal

pub merge-requires : goal.merge-requires
merge-requires c =
    let h = c.requires in
    (none_room c.args.part.now h, omega arith, omega arith, h.fits, none_modest, c.spread-x.ensures, none_spread)

pub returns : goal.returns
returns c = squeezed c.merge.ensures

pub spread-x-requires : goal.spread-x-requires
spread-x-requires c = c.requires.room
