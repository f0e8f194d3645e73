use Rattle.std.proofs.Common.{rules, arith}
use Rattle.meaning.specs.Text.{IsDigit}
use lib.ListN.{get_or}
use Rattle.chaintext.proofs.Reading.{begun, read_ends, read_end, end_ended, read_zero, read_large, read_more}
use Rattle.chaintext.proofs.pieces.number.Goals as goal
use Rattle.chaintext.proofs.pieces.number.Goals.{Else-not-is_ascii_digit}

-- The byte is a digit once it is tested.
digit : (c : Else-not-is_ascii_digit) → IsDigit (get_or c.args.line.now c.loop-i.i 0)
digit c = let h = c.if-not-is_ascii_digit.ensures.cases in (omega (arith, h), omega (arith, h))

pub loop-i-init : goal.loop-i-init
loop-i-init c = begun

pub returns-then-not-is_ascii_digit : goal.returns-then-not-is_ascii_digit
returns-then-not-is_ascii_digit c =
    rw c.ending.ensures (record { told = read_ends c.loop-i.invariant (λ d. let h = c.if-not-is_ascii_digit.ensures.cases in omega (arith, h, d)) })

pub returns-then-at-i : goal.returns-then-at-i
returns-then-at-i c =
    record { told = read_zero c.loop-i.invariant (digit (goal.at.returns-then-at-i c).Else-not-is_ascii_digit) (search rules) (search rules) }

pub returns-then-limit-more : goal.returns-then-limit-more
returns-then-limit-more c =
    record { told = read_large c.loop-i.invariant (search rules) (digit (goal.at.returns-then-limit-more c).Else-not-is_ascii_digit) (search rules) }

pub loop-i-preserved : goal.loop-i-preserved
loop-i-preserved c =
    rw c.from.ensures
    (read_more c.loop-i.invariant (search rules) (digit (goal.at.loop-i-preserved c).Else-not-is_ascii_digit)
    (λ z h. grind (arith, c.else-x-eq0.either))
    (search rules))

pub returns : goal.returns
returns c =
    let e = read_end c.loop-i.invariant c.loop-i-test.false in
    rw (c.ending-2.ensures, c.max.ensures, ← e) (record { told = read_ends c.loop-i.invariant (end_ended c.args.line.now c.loop-i.i c.loop-i-test.false) })
