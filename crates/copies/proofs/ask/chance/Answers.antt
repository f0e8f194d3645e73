use native.Mathlib.Omega.{arith}
use lib.ListN.{length-take}
use borrow.Author.Rules.{rules}
use Rattle.meaning.specs.Copies.{CopiesOutcome}
use Rattle.theory.specs.Plans.Filed.{plan_asked}
use Rattle.copies.proofs.Filing.{filing_made, made_sensible, made_file, made_inside, made_refused, asked_refused, asked_answered}
use Rattle.copies.proofs.ask.chance.Goals as goal

pub returns-then-filed-ne0 : goal.returns-then-filed-ne0
returns-then-filed-ne0 c =
    let filed = filing_made (omega arith) c.file-filed.ensures in
    CopiesOutcome.refused _ _ (made_refused filed (search rules)) c.refused.ensures

pub slice_bounds-buffer-end : goal.slice_bounds-buffer-end
slice_bounds-buffer-end c = let filed = filing_made (omega arith) c.file-filed.ensures in made_inside filed (search rules)

pub slice_bounds-egorstream_chance-end : goal.slice_bounds-egorstream_chance-end
slice_bounds-egorstream_chance-end c =
    let filed = filing_made (omega arith) c.file-filed.ensures in
    let inside : _ = made_inside filed (search rules) in
    simp length-take (omega (arith, inside))

pub returns-then-returned-ne0 : goal.returns-then-returned-ne0
returns-then-returned-ne0 c =
    let filed = filing_made (omega arith) c.file-filed.ensures in
    let sensible = made_sensible filed (search rules) in
    let exactly = plan_asked sensible (omega arith) (made_file filed (search rules)) (omega arith) c.egorstream_chance-returned.ensures in
    asked_refused sensible exactly (search rules) c.refused-then-returned-ne0.ensures

pub returns : goal.returns
returns c =
    let filed = filing_made (omega arith) c.file-filed.ensures in
    let sensible = made_sensible filed (search rules) in
    let exactly = plan_asked sensible (omega arith) (made_file filed (search rules)) (omega arith) c.egorstream_chance-returned.ensures in
    rw (c.number.ensures, c.number-2.ensures) (asked_answered sensible exactly (search rules))
