use mathlib.Core.Path.{◌≡◌, refl, sym, subst}
use native.Mathlib.Omega.{arith}
use borrow.Author.Rules.{rules}
use Rattle.meaning.specs.Text.{bytes_of}
use Rattle.meaning.specs.Copies.{Sensible}
use Rattle.theory.specs.Plans.Judged.{sensible_copies}
use Rattle.lines.proofs.Fitting.{worded}
use Rattle.planning.specs.Told.{told_weights}
use Rattle.planning.proofs.Lining.{line_with}
use Rattle.planning.proofs.Tabling.{rows_none, rows_more}
use Rattle.planning.proofs.tabled.rows.Goals as goal

pub loop-c-init : goal.loop-c-init
loop-c-init c = rows_none (told_weights c.args.w)

pub plan_line-requires : goal.plan_line-requires
plan_line-requires c = subst Sensible (sym c.with_copies.ensures) (sensible_copies c.requires (omega arith) (search rules))

pub loop-c-preserved : goal.loop-c-preserved
loop-c-preserved c =
    rows_more (told_weights c.args.w) c.loop-c.c c.loop-c.invariant
    (line_with c.with_copies.ensures (bytes_of "copies ") c.plan_line.ensures)

pub returns : goal.returns
returns c = let e : c.loop-c.c ≡ 32 = search rules in worded (rw e refl) (omega (arith, e)) c.loop-c.invariant
