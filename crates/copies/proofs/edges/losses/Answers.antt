use Prim.Native.Nat.{◌+◌, ◌≤◌}
use mathlib.Core.Path.{refl}
use native.Mathlib.Omega.{arith}
use native.Mathlib.Nat.{mul-le-mul}
use borrow.Author.Rules.{rules}
use Rattle.meaning.specs.Copies.{most_copies, most_weight}
use Rattle.copies.proofs.Growing.{rungs_none, rungs_room, rungs_more, rungs_all}
use Rattle.copies.proofs.edges.losses.Goals as goal

pub loop-i-init : goal.loop-i-init
loop-i-init c = rungs_none (omega arith)

pub overflow_mul-k : goal.overflow_mul-k
overflow_mul-k c =
    let few : c.loop-i.i + 1 ≤ most_copies = omega arith in
    let small : c.args.loss ≤ most_weight = omega arith in
    omega (arith, mul-le-mul few small)

pub put-next-requires : goal.put-next-requires
put-next-requires c = rungs_room c.loop-i.invariant (λ k. refl) (search rules) (search rules)

pub loop-i-preserved : goal.loop-i-preserved
loop-i-preserved c = rungs_more c.loop-i.invariant (search rules) c.put-next.ensures

pub returns : goal.returns
returns c = rungs_all c.loop-i.invariant (search rules)
