use Prim.Native.Nat.{◌≤◌}
use native.Mathlib.Omega.{arith}
use Rattle.meaning.specs.Chain.{most_states}
use Rattle.elimination.specs.Packed.{targets_of, states_of}
use Rattle.elimination.proofs.Places.{place_all, place_below}
use Rattle.elimination.proofs.Laws.{packed_few}
use Rattle.elimination.proofs.Noting.{columns_packed}
use Rattle.elimination.proofs.log.columns_in.Goals as goal
use Rattle.elimination.proofs.log.columns_in.Goals.{After-count}

-- A row has no more targets than there are states.
few : (c : After-count) → c.count.result ≤ most_states
few c =
    let p = c.args.part.now in
    omega (arith, c.count.ensures, place_all (targets_of p) (states_of p) (packed_few c.requires.2), place_below (targets_of p) (states_of p), c.requires.0)

pub overflow_sub-result : goal.overflow_sub-result
overflow_sub-result c =
    omega (arith, columns_packed c.requires.2 c.args.s c.requires.1, c.count.ensures, c.weighed.ensures.0, c.weighed-2.ensures.0, c.counted.ensures.0)

pub returns : goal.returns
returns c =
    omega (arith, columns_packed c.requires.2 c.args.s c.requires.1, c.count.ensures, c.weighed.ensures.0, c.weighed-2.ensures.0, c.counted.ensures.0)

pub overflow_add-result : goal.overflow_add-result
overflow_add-result c = omega (arith, few (goal.at.overflow_add-result c).After-count, c.weighed.ensures.1)

pub overflow_add-result-2 : goal.overflow_add-result-2
overflow_add-result-2 c = omega (arith, few (goal.at.overflow_add-result-2 c).After-count, c.weighed.ensures.1, c.weighed-2.ensures.1)
