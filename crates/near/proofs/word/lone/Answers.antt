use Rattle.std.proofs.Common.{◌≡◌, ◌+◌, ◌-◌, ◌*◌, ◌^◌, ap, ◌∙◌, arith}
use Rattle.theory.specs.Numbers.Binary.{digits_least}
use Rattle.near.specs.Word.{word}
use Rattle.near.specs.Split.{value_of}
use Rattle.near.proofs.word.lone.Goals as goal

pub returns-then-s-lt-LONG : goal.returns-then-s-lt-LONG
returns-then-s-lt-LONG c =
    let v = value_of c.times-s.result in
    let e : v + 0 * 2 ^ (33 - 33) ≡ v = omega arith in
    c.sum_cut.ensures ∙ ap word (e ∙ c.times-s.ensures.0)

pub packed_long-requires : goal.packed_long-requires
packed_long-requires c = (omega arith, omega arith, omega (arith, digits_least c.times-s.result.first 30 (omega arith)))

pub returns : goal.returns
returns c = c.packed_long.ensures ∙ ap word c.times-s.ensures.0
