use Rattle.std.proofs.Common.{◌≡◌, ◌≤◌, ◌∙◌, length, take, set, sym, ap, arith}
use Rattle.std.proofs.Math.Seq.{length-take-le}
use Rattle.meaning.specs.Number.{tab_from, filled}
use Rattle.steplist.specs.Told.{told}
use Rattle.steplist.proofs.Kept.{untold, record_at}
use Rattle.steplist.proofs.Listed.{map_listed, listed_none, listed_next, listed_whole}
use Rattle.steplist.proofs.list.fill.Goals as goal

pub loop-i-init : goal.loop-i-init
loop-i-init c = sym (listed_none (record_at c.args.t) _)

pub record_at-requires : goal.record_at-requires
record_at-requires c =
    let n : length (take c.shown-most.result c.args.list.now) ≡ c.shown-most.result = length-take-le _ _ (omega (arith, c.shown-most.ensures)) in
    omega (arith, c.shown-most.ensures, c.loop-i-test.true)

pub loop-i-preserved : goal.loop-i-preserved
loop-i-preserved c =
    let f = record_at c.args.t in
    let before = take c.shown-most.result c.args.list.now in
    let i = c.loop-i.i in
    ap (λ l. set l i c.record_at.result) c.loop-i.invariant
    ∙ ap (λ r. set (filled (tab_from 0 i f) before) i (untold r)) c.record_at.ensures
    ∙ sym (listed_next f before i c.loop-i-test.true)

pub returns : goal.returns
returns c =
    let f = record_at c.args.t in
    let before = c.args.list.now in
    let m : c.shown-most.result ≤ length before = omega (arith, c.shown-most.ensures) in
    let n : length (take c.shown-most.result before) ≡ c.shown-most.result = length-take-le _ _ m in
    let all : c.loop-i.i ≡ c.shown-most.result = omega (arith, c.loop-i-test.false) in
    let e = rw all at c.loop-i.invariant in
    rw (listed_whole f before c.shown-most.result m e, c.shown-most.ensures) (map_listed told _ f before)
