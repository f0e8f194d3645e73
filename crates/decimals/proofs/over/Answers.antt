use Prim.Native.Nat.{◌^◌, ◌≤◌}
use mathlib.Core.Path.{sym}
use native.Mathlib.Omega.{arith}
use native.Mathlib.Nat.{div-eq_of_lt}
use lib.Pow.{pow_mono}
use Rattle.decimals.proofs.over.Goals as goal

pub returns-else-k-lt64 : goal.returns-else-k-lt64
returns-else-k-lt64 c = let m : 2 ^ 64 ≤ 2 ^ c.args.k = pow_mono {i = 64} (omega arith) in sym (div-eq_of_lt (omega arith))
