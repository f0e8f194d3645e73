use mathlib.Core.Path.{◌≡◌, refl, sym, ◌∙◌}
use Prim.Native.Nat.{◌<◌}
use native.Mathlib.Omega.{arith}
use borrow.Author.Rules.{rules}
use Rattle.std.specs.Prelude.{Some, None}
use Rattle.std.proofs.lemmas.Result.{err_from_is_err_and}
use Rattle.meaning.specs.Steps.{records_along}
use Rattle.elimination.proofs.Turns.{eliminating_none, eliminating_fitting, eliminating_more, eliminating_overflown, eliminating_all, logged_on, logged_stop, logged_room, made_so}
use Rattle.elimination.proofs.walk.eliminate.Goals as goal
use Rattle.elimination.proofs.walk.eliminate.Goals.{In-loop-p}

pub loop-p-init : goal.loop-p-init
unfolding records_along
loop-p-init c = let h = c.requires.fitting in (eliminating_none h.0, h.2, refl)

inside : (c : In-loop-p) → c.loop-p.p < c.args.e.now.given.chain.states
inside c = omega (arith, c.requires.fitting.1, c.loop-p-test.true)

pub turn-requires : goal.turn-requires
turn-requires c =
    let z = c.loop-p.invariant in
    let h = c.requires in
    let l = inside (goal.at.turn-requires c).In-loop-p in
    (eliminating_fitting z.0 h.fitting.0, h.order_fits _ l, logged_room z.0 l h.fitting.0.few z.1)

pub returns-in_err-ok_or : goal.returns-in_err-ok_or
returns-in_err-ok_or c =
    let z = c.loop-p.invariant in
    let l = inside (goal.at.returns-in_err-ok_or c).In-loop-p in
    let p = err_from_is_err_and c.from_residual.result c.from_residual.ensures.1 in
    let n : c.turn.result ≡ None = grind arith in
    let q = made_so _ _ _ (sym c.ok_or.ensures.value ∙ c.in_err-ok_or.was) in
    let t = rw n at c.turn.ensures in
    rw (p.1, p.2, q, c.at.ensures.1) ((c.at.ensures.0, eliminating_overflown z.0 l t.0), logged_stop z.0 t.1 z.1)

pub loop-p-preserved : goal.loop-p-preserved
loop-p-preserved c =
    let z = c.loop-p.invariant in
    let l = inside (goal.at.loop-p-preserved c).In-loop-p in
    let s : c.turn.result ≡ Some (tt {0}) = grind arith in
    let t = rw s at c.turn.ensures in
    (eliminating_more z.0 l t.0, logged_on z.0 t.1 z.1, search rules)

pub returns : goal.returns
returns c =
    let z = c.loop-p.invariant in
    let n = c.args.e.now.given.chain.states in
    let q : c.loop-p.p ≡ n = omega (arith, c.requires.fitting.1, z.0.so_far, c.loop-p-test.false) in
    (eliminating_all z.0 (omega arith), rw q at z.1)
