use Prim.Native.Nat.{◌^◌}
use mathlib.Core.Bool.{false}
use Rattle.survey.specs.Grow.{way, Grown}
use Rattle.survey.specs.Sets.{chain_of, Exactly}
use Rattle.survey.proofs.Members.{one, start_grown}
use Rattle.survey.proofs.reach.reached.Goals as goal

pub returns : goal.returns
returns c =
    let a = c.args in
    let g : Exactly (Grown (way false a.c.goals a.edges.now) (2 ^ a.c.start)) c.grow.result =
    rw (one c.alone-start.ensures c.requires.start_fits) at c.grow.ensures in
    λ d. start_grown (chain_of a.c d a.edges.now) c.grow.result g
