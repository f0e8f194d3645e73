use Rattle.elimination.specs.Packed.{states_of}
use Rattle.elimination.proofs.Unpacked.{goal_stands, unknown_stands, reward_stands}
use Rattle.elimination.proofs.run.last.Goals as goal

pub returns : goal.returns
returns c =
    let p = c.args.part.now in
    let n = states_of p in
    rw ((goal_stands n).here p, (unknown_stands n).here p, (reward_stands n).here p, c.outside.ensures.0)
