use Rattle.std.proofs.Common.{◌≡◌, ◌*◌, ◌%◌, ◌^◌, ◌≤◌, min, ◌∙◌, ap, mod-eq_of_lt, one-mul, arith, pow_mono}
use Rattle.near.proofs.answer.capped.Goals as goal

pub returns-then-k-ge33 : goal.returns-then-k-ge33
returns-then-k-ge33 c = let h : 2 ^ 33 ≤ 2 ^ c.args.k = pow_mono {i = 33} (omega arith) in omega arith

pub returns-else-k-ge33 : goal.returns-else-k-ge33
returns-else-k-ge33 c =
    let k = c.args.k in
    let h : 2 ^ k ≤ 2 ^ 33 = pow_mono {j = 33} (omega arith) in
    let one : 1 * 2 ^ k % 2 ^ 64 ≡ 2 ^ k = rw (one-mul (2 ^ k)) (mod-eq_of_lt (omega arith)) in
    c.min.ensures ∙ ap (min c.args.u) one
