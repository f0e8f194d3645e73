use native.Mathlib.Omega.{arith}
use Rattle.std.proofs.Common.{below_more}
use Rattle.theory.specs.Numbers.Bits.{one_set}
use Rattle.look.proofs.Ordered.{fresh, more}
use Rattle.look.proofs.scan.faultless.Goals as goal

pub loop-k-preserved : goal.loop-k-preserved
loop-k-preserved c =
    let e = c.at-s.ensures in
    let h = c.loop-k.invariant.1 in (
      below_more _ _ c.loop-k.invariant.0 (fresh _ _ _ h _ e (omega arith) c.if-seen-s-eq1.false),
      rw (one_set c.at-s.result (omega arith)) (more _ _ _ h _ e),
    )
