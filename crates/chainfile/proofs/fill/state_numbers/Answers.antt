use Prim.Native.Nat.{◌+◌, min}
use mathlib.Core.Path.{◌≡◌, ◌∙◌, ap₂}
use native.Mathlib.Omega.{arith}
use Rattle.meaning.specs.Block.{number_at}
use Rattle.chainfile.specs.Input.{input}
use Rattle.theory.specs.Numbers.Walk.{walk_none, walk_more, walk_filled}
use Rattle.chainfile.proofs.fill.state_numbers.Goals as goal

pub loop-i-init : goal.loop-i-init
loop-i-init c = walk_none

pub loop-i-preserved : goal.loop-i-preserved
loop-i-preserved c =
    let a = c.args in
    let few : min a.width 4 ≡ a.width = omega (arith, c.requires) in
    walk_more c.loop-i.invariant (omega arith)
    (c.number.ensures.0 ∙ ap₂ (λ z w. number_at (input a.kept.now 0) (z + a.offset) w) c.record_at.ensures.0 few)

pub shape_of-table : goal.shape_of-table
shape_of-table c = c.loop-i.invariant.len

pub returns : goal.returns
returns c = walk_filled c.loop-i.invariant _ (omega (arith, c.states-i-end.ensures.0))
