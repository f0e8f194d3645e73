use native.Mathlib.Omega.{arith}
use Rattle.elimination.proofs.merge.mix.Goals as goal

pub overflow_add-result : goal.overflow_add-result
overflow_add-result c = omega (arith, c.product.ensures.1, c.product-2.ensures.1)

pub returns : goal.returns
returns c = rw (c.product.ensures.0, c.product-2.ensures.0)
