use Prim.Native.Nat.{◌+◌, ◌*◌, ◌-◌, ◌%◌, ◌≤◌}
use borrow.Author.Rules.{rules}
use Rattle.meaning.specs.Block.{checked_bytes}
use Rattle.fletcher.specs.Columns.{columns, BothSums}
use Rattle.fletcher.proofs.Columns.{first_turn, turn_room, next_turn, last_turn, all_laid}
use Rattle.fletcher.proofs.by_columns.Goals as goal
use Rattle.fletcher.proofs.by_columns.Goals.{After-places}

pub loop-row-init : goal.loop-row-init
loop-row-init c = first_turn c.requires c.args.rule.begin_lt_modulus c.args.rule.small (search rules) (search rules)

pub add_row-requires : goal.add_row-requires
add_row-requires c = let e = c.in-Some.ensures.steps in turn_room c.requires c.loop-row.invariant _ _ e.1.0 e.1.1

pub loop-row-preserved : goal.loop-row-preserved
loop-row-preserved c =
    let e = c.in-Some.ensures.steps in
    next_turn c.requires c.loop-row.invariant _ _ e.1.0 e.1.1 e.0 c.add_row.ensures (λ j. (c.type_inv.block j).fits)

-- What the sums of the columns come to.
laid : (c : After-places)
    → let a = c.args.rule in
    let counted = a.begin + a.begin * checked_bytes + c.total-2.result * columns in
    (c.places.result ≤ counted)
    × BothSums a.modulus a.begin c.args.block.now ((a.begin + c.total.result) % a.modulus)
    ((counted - c.places.result) % a.modulus)
laid c =
    let t = c.loop-row.invariant in
    let both = all_laid t.laid (last_turn c.requires t c.in-None.ensures.steps.1.0) c.total.ensures.0 c.total-2.ensures.0 c.places.ensures in
    (both.0, (both.1, both.2))

pub overflow_sub-second : goal.overflow_sub-second
overflow_sub-second c = (laid c).0

pub returns : goal.returns
returns c = (laid (goal.at.returns c).After-places).1
