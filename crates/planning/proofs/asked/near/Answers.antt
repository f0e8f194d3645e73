use native.Mathlib.Omega.{arith}
use lib.ListN.{length-take}
use borrow.Author.Rules.{rules}
use Rattle.copies.proofs.Filing.{filing_made, made_inside}
use Rattle.planning.proofs.Asking.{near_refused, near_asked}
use Rattle.planning.proofs.asked.near.Goals as goal

pub returns-then-filed-ne0 : goal.returns-then-filed-ne0
returns-then-filed-ne0 c = near_refused (filing_made (omega arith) c.file-filed.ensures) (search rules) c.refused.ensures

pub slice_bounds-buffer-end : goal.slice_bounds-buffer-end
slice_bounds-buffer-end c = made_inside (filing_made (omega arith) c.file-filed.ensures) (search rules)

pub slice_bounds-egorstream_near-end : goal.slice_bounds-egorstream_near-end
slice_bounds-egorstream_near-end c =
    let inside : _ = made_inside (filing_made (omega arith) c.file-filed.ensures) (search rules) in
    simp length-take (omega (arith, inside))

pub returns : goal.returns
returns c =
    near_asked (filing_made (omega arith) c.file-filed.ensures) (search rules) c.egorstream_near.ensures
