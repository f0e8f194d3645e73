use mathlib.Core.Path.{◌∙◌, ap}
use native.Mathlib.Omega.{arith}
use lib.Count.{count_trailing_zeros, trailing_le, trailing_of_zero}
use Rattle.chain.proofs.Rising.{zeros_below, one_at}
use Rattle.chain.proofs.bits.lowest.Goals as goal

pub overflow_cast-result : goal.overflow_cast-result
overflow_cast-result c = record { fits = omega (arith, trailing_le 64 c.args.set) }

pub returns : goal.returns
returns c =
    let s = c.args.set in (
      λ some. let h = one_at 64 s some (omega arith) in record { inside = h.0; least = zeros_below 64 s; small = h.1 },
      λ none. ap (count_trailing_zeros 64) none ∙ trailing_of_zero 64,
    )
