use Rattle.std.proofs.Common.{◌≡◌}
use Rattle.meaning.specs.Number.{tab_from, filled}
use Rattle.steplist.proofs.Kept.{record_at}
use Rattle.steplist.proofs.list.fill.Given as goal

-- The first i records are written.
abbrev pub invariant-loop-i : goal.invariant-loop-i
invariant-loop-i l = l.r-items ≡ filled (tab_from 0 l.i (record_at l.t)) l.initial.r-items
