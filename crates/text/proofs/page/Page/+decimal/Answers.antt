use Prim.Native.Nat.{◌%◌}
use native.Mathlib.Omega.{arith}
use Rattle.theory.specs.Numbers.Decimal.{decimal_small, decimal_more, length_small, length_more}
use Rattle.octets.proofs.Steps.{kept}
use Rattle.text.proofs.Paging.{and}
use Rattle.text.proofs.page.Page.+decimal.Goals as goal

pub digit-requires : goal.digit-requires
digit-requires t c = (c.if-x-lt10.true, omega (arith, c.requires, length_small c.args.x c.if-x-lt10.true))

pub returns-then-x-lt10 : goal.returns-then-x-lt10
returns-then-x-lt10 t c = rw (decimal_small c.args.x c.if-x-lt10.true) c.digit.ensures

pub decimal-requires : goal.decimal-requires
decimal-requires t c =
    let x = c.args.x in
    (omega arith, omega (arith, c.requires, length_more x (omega (arith, c.if-x-lt10.false))))

pub digit-requires-2 : goal.digit-requires-2
digit-requires-2 t c =
    let x = c.args.x in
    let long = length_more x (omega (arith, c.if-x-lt10.false)) in
    let w = c.decimal.ensures.written (omega (arith, c.requires, long)) in
    (omega arith, omega (arith, w.past, kept w, c.requires, long))

pub returns : goal.returns
returns t c = rw (decimal_more c.args.x (omega (arith, c.if-x-lt10.false))) (and c.decimal.ensures c.digit-2.ensures)
