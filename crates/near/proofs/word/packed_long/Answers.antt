use Rattle.std.proofs.Common.{◌≡◌, ◌+◌, ◌-◌, ◌*◌, ◌%◌, ◌^◌, sym, ◌∙◌, ap₂, inr, arith}
use Rattle.meaning.specs.Near.{digits, spare}
use Rattle.theory.specs.Numbers.Tops.{first_small}
use Rattle.near.proofs.Words.{word_zeros}
use Rattle.near.proofs.Sums.{first_long}
use Rattle.near.proofs.word.packed_long.Goals as goal

pub overflow_add-result : goal.overflow_add-result
overflow_add-result c =
    let s = c.args.s.first in
    let z : 64 - c.digits_of-z.result ≡ 64 - digits s = omega arith in
    omega (arith, first_long s (64 - c.digits_of-z.result) z (omega arith) (omega arith), first_small s)

pub returns : goal.returns
returns c =
    let a = c.args.s in
    let z = 64 - c.digits_of-z.result in
    let e : a.behind - z ≡ a.behind - 33 + spare a.first = omega arith in
    ap₂ (λ x y. x * 2 ^ 31 % 2 ^ 64 + y) e (first_long a.first z (omega arith) (omega arith) (omega arith))
    ∙ sym (word_zeros a.first (a.behind - 33) (inr (omega arith)))
