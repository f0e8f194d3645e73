use Rattle.std.proofs.Common.{◌≡◌, ◌%◌, ◌^◌, refl, mod-eq_of_lt, arith}
use Rattle.theory.specs.Numbers.Binary.{digits_most}
use Rattle.near.proofs.Quotient.{full_of, full_digits}
use Rattle.near.proofs.answer.full.Goals as goal

pub overflow_sub-result : goal.overflow_sub-result
overflow_sub-result c = omega (arith, digits_most c.args.m 31 (omega arith))

pub returns : goal.returns
returns c =
    let m = c.args.m in
    let f = full_digits m (omega arith) (omega arith) in
    let e : full_of m % 2 ^ 64 ≡ full_of m = mod-eq_of_lt (omega arith) in
    rw (c.digits_of.ensures.0, e) (refl, f.0, f.1)
