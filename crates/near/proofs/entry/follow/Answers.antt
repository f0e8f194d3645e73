use Rattle.std.proofs.Common.{sym, ◌∙◌, eqb-true}
use borrow.Author.Tests.{eqb-false}
use Rattle.elimination.proofs.Tables.{kept_same}
use Rattle.near.proofs.Last.{follow_won, follow_lost, readable, follow_live}
use Rattle.near.proofs.entry.follow.Goals as goal

pub returns-then-holds : goal.returns-then-holds
returns-then-holds c =
    let a = c.args in
    let g = eqb-true _ _ (sym c.holds.ensures ∙ c.if-holds.true) in
    (kept_same _ _, λ d e b. rw c.known.ensures (follow_won a.c a.sets d e a.order.now a.work.now b g))

pub returns-then-not-holds : goal.returns-then-not-holds
returns-then-not-holds c =
    let a = c.args in
    let g = eqb-false _ _ (sym c.holds-2.ensures ∙ c.if-not-holds.true) in
    (kept_same _ _, λ d e b. rw c.known-then-not-holds.ensures (follow_lost a.c a.sets d e a.order.now a.work.now b g))

pub eliminate-rows-requires : goal.eliminate-rows-requires
eliminate-rows-requires c =
    let b = c.requires.1.1 in
    record { few_states = (b.walks.few, b.room, b.length_order); order_fits = b.walks.ready.orders }

pub read_off-requires : goal.read_off-requires
read_off-requires c =
    let a = c.args in
    let unwon = eqb-false _ _ (sym c.holds.ensures ∙ c.if-holds.false) in
    let leads = eqb-true _ _ (sym c.holds-2.ensures ∙ c.if-not-holds.false) in
    readable a.c a.sets c.requires.0 c.requires.1.0 a.order.now a.work.now c.requires.1.1 unwon leads c.eliminate-rows.ensures

pub shape_of-work : goal.shape_of-work
shape_of-work c = c.eliminate-rows.ensures.kept.len

pub returns : goal.returns
returns c =
    let a = c.args in
    let unwon = eqb-false _ _ (sym c.holds.ensures ∙ c.if-holds.false) in
    let leads = eqb-true _ _ (sym c.holds-2.ensures ∙ c.if-not-holds.false) in
    let z = c.eliminate-rows.ensures in
    let r = c.read_off.ensures in
    (z.kept, λ d e b. follow_live a.c a.sets d e a.order.now a.work.now b unwon leads z r.0 r.1)
