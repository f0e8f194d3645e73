use native.Mathlib.Omega.{arith}
use borrow.Author.Rules.{rules}
use Rattle.theory.specs.Plans.Formed.{in_range_lem}
use Rattle.copies.proofs.Sums.{lost_small, sum_empty, sum_done, sum_full, sum_between}
use Rattle.copies.proofs.states.sum.Goals as goal

pub returns-then-k-eq0 : goal.returns-then-k-eq0
returns-then-k-eq0 c = sum_empty c.requires.0 (search rules)

pub returns-then-plan-k : goal.returns-then-plan-k
returns-then-plan-k c = sum_done c.requires.0 (search rules)

pub overflow_mul-result : goal.overflow_mul-result
overflow_mul-result c = omega (arith, lost_small c.requires.0 c.args.k (search rules))

pub overflow_add-result : goal.overflow_add-result
overflow_add-result c =
    omega (arith, lost_small c.requires.0 c.args.k (search rules), (in_range_lem c.requires.0).finish_small)

pub returns-then-k-plan : goal.returns-then-k-plan
returns-then-k-plan c = sum_full c.requires.0 (search rules)

pub overflow_mul-result-2 : goal.overflow_mul-result-2
overflow_mul-result-2 c = omega (arith, lost_small c.requires.0 c.args.k (search rules))

pub overflow_add-result-2 : goal.overflow_add-result-2
overflow_add-result-2 c =
    omega (arith, lost_small c.requires.0 c.args.k (search rules), (in_range_lem c.requires.0).rebuild_small)

pub overflow_add-result-3 : goal.overflow_add-result-3
overflow_add-result-3 c =
    let r = in_range_lem c.requires.0 in
    omega (arith, lost_small c.requires.0 c.args.k (search rules), r.rebuild_small, r.finish_small)

pub returns : goal.returns
returns c = sum_between c.requires.0 (search rules) (search rules)
