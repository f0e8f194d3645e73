use native.Mathlib.Omega.{arith}
use borrow.Author.Rules.{rules}
use Rattle.text.proofs.Paging.{landed}
use Rattle.lines.proofs.Fitting.{and}
use Rattle.planning.proofs.Scanning.{scanned_some, both_told}
use Rattle.planning.proofs.scanned.both.Goals as goal

pub fewest_line-requires : goal.fewest_line-requires
fewest_line-requires c = let pre = c.requires in (pre.0, scanned_some pre.0 c.scan-s.ensures)

pub returns : goal.returns
returns c =
    let pre = c.requires in
    both_told pre.0 pre.1 c.scan-s.ensures (scanned_some pre.0 c.scan-s.ensures)
    (landed (search rules) ((and c.fewest_line.ensures c.open_line.ensures).fitted (omega (arith, pre.2))).written)
