use native.Mathlib.Omega.{arith}
use Rattle.opening.proofs.Placing.{states_stored}
use Rattle.opening.proofs.store.states.Goals as goal

pub returns : goal.returns
returns c =
    states_stored (omega (arith, c.requires)) (omega (arith, c.requires)) (omega (arith, c.requires)) (omega (arith, c.requires)) c.place.ensures c.place-2.ensures c.place-3.ensures
