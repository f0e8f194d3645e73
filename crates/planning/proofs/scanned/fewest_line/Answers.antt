use mathlib.Core.Path.{sym, subst}
use native.Mathlib.Omega.{arith}
use borrow.Author.Rules.{rules}
use Rattle.meaning.specs.Text.{bytes_of}
use Rattle.meaning.specs.Copies.{Sensible}
use Rattle.theory.specs.Plans.Judged.{sensible_copies}
use Rattle.planning.specs.Told.{told_weights}
use Rattle.planning.specs.Line.{chances_of}
use Rattle.planning.proofs.Lining.{line_with}
use Rattle.planning.proofs.Scanning.{some_kept, none_kept}
use Rattle.planning.proofs.scanned.fewest_line.Goals as goal

pub plan_line-requires : goal.plan_line-requires
plan_line-requires c =
    let pre = c.requires in
    subst Sensible (sym c.with_copies.ensures) (sensible_copies pre.0 pre.1 (search rules))

pub returns-then-fewest-le-COPIES : goal.returns-then-fewest-le-COPIES
returns-then-fewest-le-COPIES c =
    let a = c.args in
    some_kept (chances_of (told_weights a.w)) a.fewest (search rules)
    (line_with c.with_copies.ensures (bytes_of "copies ") c.plan_line.ensures)

pub plan_line-requires-2 : goal.plan_line-requires-2
plan_line-requires-2 c =
    let pre = c.requires in
    subst Sensible (sym c.with_copies-2.ensures) (sensible_copies pre.0 (omega arith) (omega arith))

pub returns : goal.returns
returns c =
    let a = c.args in
    none_kept (chances_of (told_weights a.w)) a.fewest (search rules)
    (line_with c.with_copies-2.ensures (bytes_of "none ") c.plan_line-2.ensures)
