use mathlib.Core.Path.{◌≡◌}
use native.Mathlib.Omega.{arith}
use Rattle.std.specs.Prelude.{Some, None, Ok}
use Rattle.std.proofs.lemmas.Result.{err_from_is_err_and}
use borrow.Author.Rules.{rules}
use Rattle.input.proofs.Taking.{going_none, going_more, going_ended, going_broke}
use Rattle.input.proofs.Giving.{giving_none, giving_more, giving_ended, giving_broke, giving_spent}
use Rattle.input.proofs.read.Goals as goal

pub loop-init : goal.loop-init
loop-init g c = record { going = going_none _; giving = giving_none _ _ }

pub returns-in_default : goal.returns-in_default
returns-in_default g c =
    let i = c.loop.invariant in
    let h = c.read_part.ensures in
    let e : c.read_part.result ≡ Ok None = cc in
    record { parts = going_ended i.going h.step e; known = record { reading = giving_ended i.giving h.step h.known e } }

pub returns-in_err-next : goal.returns-in_err-next
returns-in_err-next g c =
    let i = c.loop.invariant in
    let h = c.read_part.ensures in
    let p = err_from_is_err_and c.from_residual.result c.from_residual.ensures.1 in
    rw p.1
    (record { parts = going_broke i.going h.step c.in_err-next.was; known = record { reading = giving_broke i.giving h.step h.known c.in_err-next.was } })

pub loop-preserved : goal.loop-preserved
loop-preserved g c =
    let i = c.loop.invariant in
    let h = c.read_part.ensures in
    let e : c.read_part.result ≡ Ok (Some c.in-Some.next) = cc in
    record {
      going = going_more i.going h.step e (omega arith);
      giving = giving_more i.giving h.step h.known e (omega arith);
    }

pub returns : goal.returns
returns g c =
    let i = c.loop.invariant in
    record { parts = record { reading = i.going.parts }; known = record { reading = giving_spent i.giving (search rules) } }
