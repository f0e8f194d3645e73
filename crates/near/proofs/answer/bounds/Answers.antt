use Rattle.std.proofs.Common.{◌≡◌, ◌+◌, ◌-◌, ◌^◌, ◌≤◌, min, ◌∙◌, ap₂, mul-le-mul, arith}
use Rattle.near.specs.Word.{value}
use Rattle.theory.specs.Numbers.Sure.{lower_of, upper_of}
use Rattle.theory.specs.Numbers.Binary.{digits_mono}
use Rattle.near.proofs.answer.bounds.Goals as goal

pub overflow_sub-twos : goal.overflow_sub-twos
overflow_sub-twos c =
    let a = c.args in
    omega (arith, digits_mono (value a.g) (value a.d) (omega arith))

pub overflow_mul-lower : goal.overflow_mul-lower
overflow_mul-lower c =
    let q : c.over-q.result ≤ 2 ^ 32 = omega arith in
    let s : c.parts-s.result ≤ 2 ^ 30 = omega arith in
    record { fits = omega (arith, mul-le-mul q s) }

pub returns : goal.returns
returns c =
    let q = c.over-q.ensures.0 in
    let s = c.parts-s.ensures.0 in
    let k : 31 + c.weight_digits.result - c.weight_digits-2.result ≡ _ = ap₂ (λ x y. 31 + x - y) c.weight_digits.ensures.0 c.weight_digits-2.ensures.0 in
    record {
      twos = k;
      lower = ap₂ lower_of q s;
      upper = c.capped-upper.ensures ∙ ap₂ (λ u p. min u (2 ^ p)) (c.above.ensures.0 ∙ ap₂ upper_of q s) k;
    }
