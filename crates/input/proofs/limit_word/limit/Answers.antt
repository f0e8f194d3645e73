use Prim.Native.Nat.{◌+◌}
use native.Mathlib.Omega.{arith}
use borrow.Author.Rules.{rules}
use Rattle.meaning.specs.Limit.{limit, IsLimit}
use Rattle.theory.specs.Numbers.Decide.{holds, fails}
use Rattle.input.proofs.LimitWord.{too_long, no_digits, no_fraction, read_few, middle_inside, tens_most, read_none, read_limit}
use Rattle.input.proofs.limit_word.limit.Goals as goal

pub returns-then-word-gt-LIMIT_BYTES : goal.returns-then-word-gt-LIMIT_BYTES
returns-then-word-gt-LIMIT_BYTES c = too_long (search rules)

pub returns-then-point-eq0 : goal.returns-then-point-eq0
returns-then-point-eq0 c = no_digits c.read_run-whole.ensures (search rules)

pub middle-all-requires : goal.middle-all-requires
middle-all-requires c = (c.read_run-whole.ensures.runs.inside, read_few c.read_run-whole.ensures (omega arith))

pub returns-then-mark-point : goal.returns-then-mark-point
returns-then-mark-point c = no_fraction c.read_run-whole.ensures c.middle-all.ensures (search rules)

pub tens-requires : goal.tens-requires
tens-requires c = middle_inside c.read_run-whole.ensures c.middle-all.ensures

pub overflow_add-m : goal.overflow_add-m
overflow_add-m c =
    record {
      fits =
          omega (
            arith,
            tens_most c.tens.ensures,
            c.after_point.ensures,
            middle_inside c.read_run-whole.ensures c.middle-all.ensures,
          );
    }

pub returns-then-sound : goal.returns-then-sound
returns-then-sound c =
    let at-tens = c in
    let at-middle = at-tens in
    let at-whole = at-middle in
    let sound =
    holds (IsLimit (limit at-middle.middle-all.result.number (at-tens.after_point.result + at-tens.tens.result))) c.sound.ensures
    c.if-sound.true in
    read_limit at-whole.read_run-whole.ensures at-middle.middle-all.ensures at-tens.tens.ensures at-tens.after_point.ensures (search rules) at-middle.if-point-eq0.false
    at-tens.if-mark-point.false sound

pub returns : goal.returns
returns c =
    let at-tens = c in
    let at-middle = at-tens in
    let at-whole = at-middle in
    let unsound =
    fails (IsLimit (limit at-middle.middle-all.result.number (at-tens.after_point.result + at-tens.tens.result))) c.sound.ensures
    c.if-sound.false in
    read_none at-whole.read_run-whole.ensures at-middle.middle-all.ensures at-tens.tens.ensures at-tens.after_point.ensures unsound
