use mathlib.Core.Path.{◌≡◌, sym, subst}
use borrow.Author.Rules.{rules}
use Rattle.meaning.specs.Copies.{Sensible}
use Rattle.theory.specs.Plans.Judged.{sensible_copies}
use Rattle.planning.proofs.Scanning.{judged_with, seen_none, seen_kept, seen_more, seen_all}
use Rattle.planning.proofs.scanned.scan.Goals as goal

pub loop-c-init : goal.loop-c-init
loop-c-init c = seen_none

pub verdict-said-requires : goal.verdict-said-requires
verdict-said-requires c =
    let pre = c.requires in
    (subst Sensible (sym c.with_copies.ensures) (sensible_copies pre.0 c.loop-c.invariant.some (search rules)), pre.1)

pub returns-then-said-eq-KEPT : goal.returns-then-said-eq-KEPT
returns-then-said-eq-KEPT c =
    seen_kept c.loop-c.invariant (search rules)
    (judged_with c.with_copies.ensures c.verdict-said.ensures) (search rules)

pub loop-c-preserved : goal.loop-c-preserved
loop-c-preserved c =
    seen_more c.loop-c.invariant (search rules)
    (judged_with c.with_copies.ensures c.verdict-said.ensures) (search rules) c.follows-first.ensures

pub returns : goal.returns
returns c = let e : c.loop-c.c ≡ 33 = search rules in rw (← e) (seen_all c.loop-c.invariant (search rules))
