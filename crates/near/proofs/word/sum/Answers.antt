use Rattle.std.proofs.Common.{◌≡◌, ℕ, ◌+◌, ◌-◌, ◌*◌, ◌/◌, ◌%◌, ◌^◌, ◌<◌, ◌≤◌, ap, ◌∙◌, div-le_self, arith}
use Rattle.theory.specs.Numbers.Binary.{digits_least}
use Rattle.near.specs.Word.{word}
use Rattle.near.proofs.Sums.{aligned}
use Rattle.near.proofs.word.sum.Goals as goal

-- A difference that wraps is not small.
unwrapped : (x y : ℕ) → x < 2 ^ 35 → y < 2 ^ 35 → (x + (18446744073709551616 - y)) % 18446744073709551616 < 64
    → ((x + (18446744073709551616 - y)) % 18446744073709551616 ≡ x - y) × (y ≤ x)
unwrapped x y h k l = (omega arith, omega arith)

pub overflow_add-first : goal.overflow_add-first
overflow_add-first c =
    let a = c.args.a in
    let b = c.args.b in
    let d = (unwrapped a.behind b.behind (omega arith) (omega arith) c.if-c-ge64.false).0 in
    rw d (omega (arith, div-le_self b.first (2 ^ (a.behind - b.behind))))

pub packed_long-requires : goal.packed_long-requires
packed_long-requires c = (omega arith, omega arith, digits_least _ 30 c.if-first-lt-LONG.false)

pub returns : goal.returns
returns c =
    let a = c.args.a in
    let b = c.args.b in
    let d = unwrapped a.behind b.behind (omega arith) (omega arith) c.if-c-ge64.false in
    let e : a.behind - b.behind ≡ a.behind - 33 - (b.behind - 33) = omega arith in
    let l = digits_least _ 30 c.if-first-lt-LONG.false in
    c.packed_long.ensures
    ∙ ap (λ z. word ((a.first + b.first / 2 ^ z) * 2 ^ (a.behind - 33))) (d.0 ∙ e)
    ∙ aligned a.first (a.behind - 33) b.first (b.behind - 33) (omega (arith, d.1)) (rw (d.0 ∙ e) at l)
