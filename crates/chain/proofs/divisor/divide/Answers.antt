use mathlib.Core.Path.{◌∙◌}
use native.Mathlib.Omega.{arith}
use Rattle.theory.specs.Numbers.Twos.{twos}
use Rattle.chain.proofs.Lowest.{over_twos, over_even}
use Rattle.chain.proofs.divisor.divide.Goals as goal

pub quotients-requires : goal.quotients-requires
quotients-requires c = omega (arith, (twos 64 c.args.d c.requires (omega arith)).odd)

pub returns-then-q-ne1 : goal.returns-then-q-ne1
returns-then-q-ne1 c = c.quotients.ensures ∙ over_twos _ _ _ _ (twos 64 c.args.d c.requires (omega arith)) c.lower.ensures

pub returns-else-q-ne1 : goal.returns-else-q-ne1
returns-else-q-ne1 c = over_even _ _ _ _ (twos 64 c.args.d c.requires (omega arith)) (omega arith) c.lower.ensures
