use native.Mathlib.Omega.{arith}
use lib.ListN.{length-take}
use Rattle.copies.proofs.Filing.{filing_made, made_file, made_inside}
use Rattle.planning.proofs.Asking.{made_none}
use Rattle.planning.proofs.Scanning.{file_judged}
use Rattle.planning.proofs.asked.verdict.Goals as goal

pub slice_bounds-buffer-end : goal.slice_bounds-buffer-end
slice_bounds-buffer-end c =
    let filed = filing_made (omega arith) c.file-filed.ensures in made_inside filed (made_none c.requires.0 filed)

pub slice_bounds-egorstream_limit-end : goal.slice_bounds-egorstream_limit-end
slice_bounds-egorstream_limit-end c =
    let filed = filing_made (omega arith) c.file-filed.ensures in
    let inside : _ = made_inside filed (made_none c.requires.0 filed) in
    simp length-take (omega (arith, inside))

pub returns : goal.returns
returns c =
    let pre = c.requires in
    let filed = filing_made (omega arith) c.file-filed.ensures in
    file_judged pre.0 pre.1 (made_file filed (made_none pre.0 filed)) c.egorstream_limit-limited.ensures
