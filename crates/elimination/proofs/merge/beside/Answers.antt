use mathlib.Core.Path.{sym, ◌∙◌}
use native.Mathlib.Omega.{arith}
use borrow.Author.Tests.{ne_eqb, eq-eqb}
use Rattle.theory.specs.Numbers.Walk.{walk_from, walk_at, walk_more}
use Rattle.elimination.proofs.merge.beside.Goals as goal

pub loop-q-init : goal.loop-q-init
loop-q-init c = (walk_from 1 (omega arith) (λ j h. sym (rw (eq-eqb j 0 (omega arith)))), omega arith, omega arith)

pub mix-requires : goal.mix-requires
mix-requires c =
    let h = c.requires in
    let q = c.loop-q.q in
    (rw (walk_at c.loop-q.invariant.0) (h.5 q (omega arith)), h.3, h.4, h.6 q (omega arith))

pub loop-q-preserved : goal.loop-q-preserved
loop-q-preserved c =
    let i = c.loop-q.invariant in
    (walk_more i.0 (omega arith) (c.mix.ensures ∙ rw (walk_at i.0, ne_eqb c.loop-q.q 0 (λ e. omega arith))), omega arith, omega arith)

pub returns : goal.returns
returns c =
    let i = c.loop-q.invariant.0 in
    record {
      len = i.len;
      targets = i.new 0 (omega arith);
      new = λ q a b. i.new q (omega arith) ∙ rw (ne_eqb q 0 (λ e. omega arith));
      past = λ q b. i.old q (omega arith);
    }
