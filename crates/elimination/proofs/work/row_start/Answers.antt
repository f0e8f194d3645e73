use mathlib.Core.Path.{◌≡◌, refl}
use Prim.Native.Nat.{◌+◌, ◌*◌, ◌%◌, ◌^◌}
use native.Mathlib.Nat.{mul-le-mul}
use native.Mathlib.Omega.{arith}
use Rattle.std.proofs.Math.Nat.{mod-eq_of_lt}
use Rattle.elimination.proofs.Tables.{row_end}
use Rattle.elimination.proofs.work.row_start.Goals as goal

pub returns-clause-row : goal.returns-clause-row
returns-clause-row c = λ b f.
    let a = c.args in
    let e : (a.n + 4) % 2 ^ 64 ≡ a.n + 4 = mod-eq_of_lt (omega (arith, f)) in
    let p : a.i * (a.n + 4) % 2 ^ 64 ≡ a.i * (a.n + 4) = mod-eq_of_lt (omega (arith, row_end a.i a.n b, mul-le-mul f f)) in
    rw (e, p) (refl, row_end a.i a.n b)
