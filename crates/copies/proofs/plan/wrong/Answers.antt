use native.Mathlib.Omega.{arith}
use borrow.Author.Rules.{rules}
use Rattle.meaning.specs.Copies.{PlaceFault}
use Rattle.theory.specs.Numbers.Search.{clear_none, clear_more}
use Rattle.copies.specs.Told.{told_plan}
use Rattle.theory.specs.Numbers.Decide.{holds, fails}
use Rattle.copies.proofs.plan.wrong.Goals as goal

pub returns-then-beyond : goal.returns-then-beyond
returns-then-beyond c =
    let F = PlaceFault (told_plan c.args.plan) in
    record {
      before = clear_none F;
      here = (omega arith, holds _ {b = c.beyond.result} c.beyond.ensures (search rules));
    }

pub returns-then-beyond-2 : goal.returns-then-beyond-2
returns-then-beyond-2 c =
    let F = PlaceFault (told_plan c.args.plan) in
    record {
      before = clear_more F 0 (clear_none F) (λ f. fails _ {b = c.beyond.result} c.beyond.ensures (search rules) f.1);
      here = (omega arith, holds _ {b = c.beyond-2.result} c.beyond-2.ensures (search rules));
    }

pub returns-then-beyond-3 : goal.returns-then-beyond-3
returns-then-beyond-3 c =
    let F = PlaceFault (told_plan c.args.plan) in
    record {
      before =
          clear_more F 1
          (clear_more F 0 (clear_none F) (λ f. fails _ {b = c.beyond.result} c.beyond.ensures (search rules) f.1))
          (λ f. fails _ {b = c.beyond-2.result} c.beyond-2.ensures (search rules) f.1);
      here = (omega arith, holds _ {b = c.beyond-3.result} c.beyond-3.ensures (search rules));
    }

pub returns : goal.returns
returns c =
    let F = PlaceFault (told_plan c.args.plan) in
    let clear =
    clear_more F 2
    (clear_more F 1
    (clear_more F 0 (clear_none F) (λ f. fails _ {b = c.beyond.result} c.beyond.ensures (search rules) f.1))
    (λ f. fails _ {b = c.beyond-2.result} c.beyond-2.ensures (search rules) f.1))
    (λ f. fails _ {b = c.beyond-3.result} c.beyond-3.ensures (search rules) f.1) in
    λ q f. clear q (omega (arith, f.0)) f
