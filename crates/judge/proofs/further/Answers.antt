use Rattle.std.proofs.Common.{rules, arith, ◌≡◌, ◌<◌, MatchResult}
use Rattle.std.proofs.lemmas.Result.{err_from_is_err_and, MatchResult-weaker}
use Rattle.octets.specs.Input.{input}
use Rattle.judge.proofs.Blocks.{wrong, right}
use Rattle.judge.proofs.further.Goals as goal

pub returns-in_err-map_err : goal.returns-in_err-map_err
returns-in_err-map_err c more =
    let p = err_from_is_err_and c.from_residual.result c.from_residual.ensures.1 in
    let e = c.in_err-map_err.field-0.0 in
    let b = c.loop-b.b-counter in
    let m : MatchResult c.test.result (λ _. ⊥) (λ fault. (e.fault ≡ fault) × (e.place ≡ b)) =
    MatchResult-weaker c.test.result c.in_err-map_err.ensures.cases (λ _ h. search rules) (λ fault h. search rules) in
    let after : 0 < b = omega arith in
    let below : b < c.args.end = omega arith in
    rw (p.1, p.2)
    (wrong (input c.args.kept.now more) b after (λ a h l. c.loop-b.invariant a h l more) c.args.end c.test.result e (c.test.ensures more) below m)

pub loop-b-preserved : goal.loop-b-preserved
loop-b-preserved c a h l more =
    let b = c.loop-b.b-counter in
    let after : 0 < b = omega arith in
    right (input c.args.kept.now more) b after (λ a h l. c.loop-b.invariant a h l more) c.test.result (c.test.ensures more) c.in_ok-map_err.ensures.variant a h l
