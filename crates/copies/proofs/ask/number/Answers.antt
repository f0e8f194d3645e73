use Prim.Native.Nat.{◌+◌}
use mathlib.Core.Path.{◌≡◌, ap}
use native.Mathlib.Omega.{arith}
use lib.ListN.{get_or}
use Rattle.meaning.specs.Number.{sum_to}
use Rattle.copies.proofs.ask.number.Goals as goal

pub returns : goal.returns
unfolding sum_to
returns c =
    let a = c.args in
    let z : a.at ≡ a.at + 0 = omega arith in
    omega (arith, c.from.ensures, c.from_le_bytes.ensures, ap (λ at. get_or a.answer.now at 0) z)
