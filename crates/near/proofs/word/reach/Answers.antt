use Rattle.std.proofs.Common.{◌*◌, ◌^◌, sym, ap, ◌∙◌, zero-mul, arith}
use Rattle.meaning.specs.Near.{digits}
use Rattle.theory.specs.Numbers.Binary.{digits_none, digits_shift}
use Rattle.near.proofs.word.reach.Goals as goal

pub returns-then-p-eq0 : goal.returns-then-p-eq0
returns-then-p-eq0 c =
    let a = c.args in
    (sym (ap (λ z. digits (z * 2 ^ a.x)) c.if-p-eq0.true ∙ ap digits (zero-mul (2 ^ a.x)) ∙ digits_none), omega arith)

pub returns-else-p-eq0 : goal.returns-else-p-eq0
returns-else-p-eq0 c =
    let a = c.args in
    (omega (arith, digits_shift a.p a.x (omega arith)), omega arith)
