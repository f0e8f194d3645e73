use Prim.Native.Nat.{◌^◌}
use mathlib.Core.Path.{sym, ◌∙◌, ap}
use native.Mathlib.Nat.{mod-eq_of_lt, pow-le-pow_right}
use native.Mathlib.Omega.{arith}
use lib.Bits.{and_mask}
use lib.Pow.{pow_pos}
use lib.Count.{ones}
use Rattle.chain.proofs.Rising.{alone_in}
use Rattle.chain.proofs.bits.place.Goals as goal

-- All states stand below a number past them.
pub returns-then-j-ge-STATES : goal.returns-then-j-ge-STATES
returns-then-j-ge-STATES c =
    let a = c.args in
    c.count.ensures ∙ sym (ap ones (mod-eq_of_lt {n = a.set} {m = 2 ^ a.j} (omega (arith, pow-le-pow_right {n = 2} (omega arith) c.if-j-ge-STATES.true))))

pub overflow_sub-alone : goal.overflow_sub-alone
overflow_sub-alone c = rw (alone_in {j = c.args.j} c.alone.ensures (omega arith)) (omega (arith, pow_pos c.args.j))

pub returns : goal.returns
returns c =
    let a = c.args in
    rw (alone_in {j = a.j} c.alone.ensures (omega arith)) at c.count-2.ensures ∙ ap ones (and_mask a.set a.j)
