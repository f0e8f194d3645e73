use Rattle.std.proofs.Common.{◌≡◌, ◌+◌, ◌*◌, ◌^◌, sym, ap, ◌∙◌, zero-mul, arith}
use Rattle.near.specs.Word.{word, value}
use Rattle.near.specs.Split.{value_of}
use Rattle.near.proofs.Words.{value_none, parts_none}
use Rattle.near.proofs.wide.cell.Goals as goal

pub returns-then-p-eq0 : goal.returns-then-p-eq0
returns-then-p-eq0 c = let a = c.args in sym (parts_none a.x (value_of a.d) (value_of a.w) a.p a.y (omega arith) (omega arith))

pub returns-then-x-eq0 : goal.returns-then-x-eq0
returns-then-x-eq0 c =
    let a = c.args in
    let x : a.x ≡ 0 = omega arith in
    let e : value a.x * value_of a.d ≡ 0 = rw (x, value_none) (zero-mul (value_of a.d)) in
    c.lone.ensures ∙ ap word (sym (ap (λ z. z + value_of a.w * (a.p * 2 ^ a.y)) e ∙ omega arith))
