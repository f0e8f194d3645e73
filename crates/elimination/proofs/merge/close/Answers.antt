use Prim.Native.Nat.{suc, ◌+◌, ◌-◌}
use mathlib.Core.Path.{◌≡◌, sym, ◌∙◌}
use native.Mathlib.Omega.{arith}
use lib.ListN.{length-set}
use lib.Seq.{get_or-set_same, get_or-set_other}
use borrow.Author.Tests.{lt-ltb, le-ltb}
use Rattle.theory.specs.Numbers.Walk.{walk_from, walk_more}
use Rattle.elimination.proofs.merge.close.Goals as goal

pub loop-q-init : goal.loop-q-init
loop-q-init c = (walk_from _ (omega arith) (λ j h. sym (rw (lt-ltb j _ h))), omega arith, omega arith)

pub mix-requires : goal.mix-requires
mix-requires c =
    let h = c.requires in
    let i = c.loop-q.invariant in
    let q = c.loop-q.q in
    (rw (i.0.old (q + 1) (omega arith)) (h.5 (q + 1) (omega arith)), h.3, h.4, h.6 (q + 1) (omega arith))

pub loop-q-preserved : goal.loop-q-preserved
loop-q-preserved c =
    let i = c.loop-q.invariant in
    let q = c.loop-q.q in
    let e : suc q ≡ q + 1 = omega arith in
    (walk_more i.0 (omega arith) (c.mix.ensures ∙ rw (i.0.old (q + 1) (omega arith), le-ltb q _ i.1, e)), omega arith, omega arith)

pub returns : goal.returns
returns c =
    let k = c.loop-q.invariant in
    let x = c.loop-q.part in
    let m = c.args.e - 1 in
    record {
      len = length-set x m 0 ∙ k.0.len;
      front = λ q b. get_or-set_other x m q 0 0 (λ z. omega arith) ∙ k.0.new q (omega arith) ∙ rw (lt-ltb q _ b);
      moved = λ q b d. get_or-set_other x m q 0 0 (λ z. omega arith) ∙ k.0.new q (omega arith) ∙ rw (le-ltb q _ b);
      last = λ q b. let z : q ≡ m = omega arith in rw z (get_or-set_same x m 0 0 (omega (arith, k.0.len)));
      past = λ q b. get_or-set_other x m q 0 0 (λ z. omega arith) ∙ k.0.old q (omega arith);
    }
