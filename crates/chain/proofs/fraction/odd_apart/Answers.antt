use Prim.Native.Nat.{◌+◌, ◌-◌, ◌^◌}
use native.Mathlib.Omega.{arith}
use native.Mathlib.Nat.{div-le_self}
use lib.Bits.{bit_xor}
use lib.Count.{count_trailing_zeros}
use Rattle.theory.specs.Numbers.Twos.{apart_twos, apart_odd}
use Rattle.chain.proofs.fraction.odd_apart.Goals as goal

pub overflow_shr-result : goal.overflow_shr-result
overflow_shr-result c = (apart_twos c.args.x c.args.y 64 c.requires.2 (omega arith) (omega arith)).less

pub returns : goal.returns
returns c =
    let x = c.args.x in
    let y = c.args.y in
    let t = count_trailing_zeros 64 (bit_xor x y) in
    let w = apart_twos x y 64 c.requires.2 (omega arith) (omega arith) in
    rw c.abs_diff.ensures
    (w.odd, div-le_self (x - y + (y - x)) (2 ^ t), apart_odd x y 64 t c.requires.0 c.requires.1 w)
