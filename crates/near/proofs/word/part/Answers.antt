use Rattle.std.proofs.Common.{◌*◌, ◌/◌, ◌^◌, sym, ap, ◌∙◌, zero-mul, arith}
use native.Mathlib.Nat.{zero-div}
use Rattle.theory.specs.Numbers.Binary.{cut_small}
use Rattle.near.proofs.Sums.{part_up, part_few, part_down, part_far}
use Rattle.near.proofs.word.part.Goals as goal

pub returns-then-p-eq0 : goal.returns-then-p-eq0
returns-then-p-eq0 c =
    let a = c.args in
    (sym (ap (λ z. z * 2 ^ a.x / 2 ^ a.k) c.if-p-eq0.true ∙ ap (λ z. z / 2 ^ a.k) (zero-mul (2 ^ a.x)) ∙ zero-div (2 ^ a.k)), omega arith)

pub overflow_shl-result : goal.overflow_shl-result
overflow_shl-result c = let a = c.args in part_few a.p a.x a.k (omega arith) (omega arith)

pub returns-then-k-x : goal.returns-then-k-x
returns-then-k-x c = let a = c.args in part_up a.p a.x a.k (omega arith) (omega arith)

pub returns-then-c-lt64 : goal.returns-then-c-lt64
returns-then-c-lt64 c =
    let a = c.args in
    let e = part_down a.p a.x a.k (omega arith) in
    (e, omega (arith, e, cut_small (a.p * 2 ^ a.x) a.k 62 (omega arith)))

pub returns-else-c-lt64 : goal.returns-else-c-lt64
returns-else-c-lt64 c =
    let a = c.args in
    (sym (part_far a.p _ (omega arith) (omega arith)) ∙ part_down a.p a.x a.k (omega arith), omega arith)
