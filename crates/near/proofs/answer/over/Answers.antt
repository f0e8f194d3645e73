use Rattle.std.proofs.Common.{◌≡◌, ◌*◌, ◌/◌, ◌%◌, ◌^◌, ◌∙◌, ap₂, mod-eq_of_lt, arith}
use Rattle.near.specs.Word.{value}
use Rattle.theory.specs.Numbers.Narrow.{quotient_small}
use Rattle.near.proofs.Quotient.{first_some, quotient_is}
use Rattle.near.proofs.answer.over.Goals as goal

pub full-requires : goal.full-requires
full-requires c = (first_some c.args.g (omega arith), omega arith)

pub full-requires-2 : goal.full-requires-2
full-requires-2 c = (first_some c.args.d (omega arith), omega arith)

pub returns : goal.returns
returns c =
    let a = c.args in
    let x = c.full.result in
    let e : x * 2 ^ 31 % 2 ^ 64 ≡ x * 2 ^ 31 = mod-eq_of_lt (omega arith) in
    let q = ap₂ (λ s t. s * 2 ^ 31 / t) c.full.ensures.0 c.full-2.ensures.0 ∙ quotient_is a.g a.d (omega arith) (omega arith) in
    rw e (q, omega (arith, q, quotient_small (value a.g) (value a.d) (omega arith) (omega arith)))
