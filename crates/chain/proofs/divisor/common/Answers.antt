use Prim.Native.Nat.{◌<◌}
use mathlib.Core.Path.{sym, ◌∙◌}
use native.Mathlib.Omega.{arith}
use lib.ListN.{take, length-take}
use borrow.Author.Tests.{eqb-true}
use Rattle.theory.specs.Numbers.Gcd.{common_whole}
use Rattle.chain.proofs.Divisors.{gcd_of_zeros, gcd_of_first, gcd_of_behind, gcd_of_divided, gcd_of_passed, one_bit}
use Rattle.chain.proofs.divisor.common.Goals as goal

pub returns-in_default : goal.returns-in_default
returns-in_default c = sym (gcd_of_zeros c.args.row.now c.in_default.ensures)

pub loop-j-init : goal.loop-j-init
loop-j-init c =
    let e = c.in-Some.ensures in
    (e.0, omega arith, (c.type_inv.row c.in-Some.j).fits, gcd_of_first c.args.row.now c.in-Some.j e.0 e.2)

pub returns-in_default-last_undivided : goal.returns-in_default-last_undivided
returns-in_default-last_undivided c =
    let k = c.loop-j in
    sym (gcd_of_divided (take k.j c.args.row.now) k.g c.in_default-last_undivided.ensures) ∙ gcd_of_behind c.args.row.now k.j k.g (omega arith) k.invariant.3

pub loop-j-preserved : goal.loop-j-preserved
loop-j-preserved c =
    let row = c.args.row.now in
    let k = c.loop-j in
    let e = c.in-Some-last_undivided.ensures in
    let less : c.in-Some-last_undivided.next < k.j = omega (arith, length-take k.j row) in
    let m = gcd_of_passed row c.in-Some-last_undivided.next k.j k.g less (omega arith) k.invariant.3 e.1 in (
      omega arith,
      rw c.gcd-g.ensures.is (common_whole _ _ k.invariant.1),
      omega arith,
      c.gcd-g.ensures.is ∙ sym m,
    )

pub lowest_bit-requires : goal.lowest_bit-requires
lowest_bit-requires c = one_bit 64 _ (omega arith) (eqb-true _ _ (sym c.loop-j-test.ensures))

pub returns : goal.returns
returns c =
    let k = c.loop-j in
    c.lowest_bit.ensures ∙ gcd_of_behind c.args.row.now k.j k.g (omega arith) k.invariant.3
