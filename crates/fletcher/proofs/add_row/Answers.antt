use native.Mathlib.Omega.{arith}
use borrow.Author.Rules.{rules}
use Rattle.fletcher.proofs.Columns.{none_added, low_plain, low_sums, more_added, all_added}
use Rattle.fletcher.proofs.add_row.Goals as goal

pub loop-c-init : goal.loop-c-init
loop-c-init c = none_added

pub overflow_add-sum : goal.overflow_add-sum
overflow_add-sum c =
    let at = c in
    let s = at in
    omega (arith, low_plain at.loop-c.invariant (search rules) s.requires.1)

pub overflow_add-sums : goal.overflow_add-sums
overflow_add-sums c =
    let at = c in
    let s = at in
    omega (arith, low_plain at.loop-c.invariant (search rules) s.requires.1, low_sums at.loop-c.invariant (search rules) s.requires.2)

pub loop-c-preserved : goal.loop-c-preserved
loop-c-preserved c =
    let at = c in
    let s = at in
    more_added at.loop-c.invariant (search rules) s.requires.1 s.requires.2 c.from.ensures

pub returns : goal.returns
returns c =
    let at = c in
    let s = at in
    all_added at.loop-c.invariant (search rules) s.requires.1 s.requires.2
