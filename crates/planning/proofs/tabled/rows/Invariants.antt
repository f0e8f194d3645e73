use Prim.Native.Nat.{◌*◌}
use Rattle.meaning.specs.PlanTable.{table_text, copies_room}
use Rattle.lines.specs.Widths.{Fits}
use Rattle.planning.specs.Told.{told_weights}
use Rattle.planning.specs.Line.{chances_of}
use Rattle.planning.proofs.tabled.rows.Given as goal

abbrev pub invariant-loop-c : goal.invariant-loop-c
invariant-loop-c l = Fits l.initial.page (table_text (chances_of (told_weights l.w)) l.c) (copies_room * l.c) l.page
