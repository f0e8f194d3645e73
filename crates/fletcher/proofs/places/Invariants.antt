use Prim.Native.Nat.{◌*◌}
use lib.ListN.{get_or}
use Rattle.fletcher.specs.Columns.{columns}
use Rattle.fletcher.proofs.Columns.{Totalled}
use Rattle.fletcher.proofs.places.Given as goal

abbrev pub invariant-loop-c : goal.invariant-loop-c
invariant-loop-c l = Totalled (λ j. j * get_or l.numbers j 0) (columns * 65535) l.c l.sum
