use Prim.Native.Nat.{suc, ◌-◌, ◌*◌, ◌^◌, ◌<◌}
use mathlib.Core.Path.{subst}
use native.Mathlib.Omega.{arith}
use lib.ListN.{length}
use lib.Pow.{pow_mono}
use borrow.Author.Rules.{rules}
use Rattle.meaning.specs.Row.{cell}
use Rattle.elimination.proofs.Fill.{only_le, Marked, marked_none, marked_more, marked_small, marked_all}
use Rattle.elimination.proofs.first.occupied.Goals as goal
use Rattle.elimination.proofs.first.occupied.Goals.{In-loop-j}

pub loop-j-init : goal.loop-j-init
loop-j-init c = marked_none

-- One column more is left.
left : (c : In-loop-j) → let l = c.args.columns.now in Marked (cell l) (length l) (suc (c.loop-j.j - 1)) c.loop-j.targets
left c = let l = c.args.columns.now in subst (λ z. Marked (cell l) (length l) z c.loop-j.targets) (omega arith) c.loop-j.invariant

-- Its bit has room.
room : (c : In-loop-j) → c.loop-j.targets * 2 < 2 ^ 64
room c = omega (arith, marked_small (left c), pow_mono c.requires)

pub overflow_mul-targets : goal.overflow_mul-targets
overflow_mul-targets c = omega (arith, room c)

pub overflow_add-targets : goal.overflow_add-targets
overflow_add-targets c =
    omega (arith, room (goal.at.overflow_add-targets c).In-loop-j, c.some.ensures, only_le (cell c.args.columns.now (c.loop-j.j - 1)) 1)

pub loop-j-preserved : goal.loop-j-preserved
loop-j-preserved c = marked_more (left (goal.at.loop-j-preserved c).In-loop-j) c.some.ensures

pub returns : goal.returns
returns c = marked_all c.loop-j.invariant (search rules)
