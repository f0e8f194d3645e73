use Prim.Native.Nat.{◌+◌, ◌≤◌}
use mathlib.Core.Path.{◌≡◌, ◌∙◌, ap}
use native.Mathlib.Omega.{arith}
use lib.ListN.{get_or}
use borrow.Author.Rules.{rules}
use Rattle.meaning.specs.Block.{flag_in}
use Rattle.chainfile.specs.Input.{input}
use Rattle.chainfile.proofs.Flags.{none, small, more, all}
use Rattle.chainfile.proofs.fill.goals.Goals as goal
use Rattle.chainfile.proofs.fill.goals.Goals.{After-byte}

pub loop-i-init : goal.loop-i-init
loop-i-init c = none

-- The byte is the flag of state i, and at most 1.
flag : (c : After-byte) → c.byte.result ≡ flag_in (input c.args.kept.now 0) c.loop-i.i
flag c =
    let a = c.args in
    c.byte.ensures.0 ∙ ap (λ z. get_or a.kept.now (z + 6) 0) c.record_at.ensures.0

low : (c : After-byte) → flag_in (input c.args.kept.now 0) c.loop-i.i ≤ 1
low c =
    c.requires.flags c.loop-i.i (omega (arith, c.states-i-end.ensures.0))

pub overflow_add-goals : goal.overflow_add-goals
overflow_add-goals c = omega (arith, small c.loop-i.invariant (omega (arith, c.states-i-end.ensures.0)) c.requires.few_states (flag c) (low c))

pub loop-i-preserved : goal.loop-i-preserved
loop-i-preserved c = more c.loop-i.invariant (omega (arith, c.states-i-end.ensures.0)) c.requires.few_states (flag c) (low c)

pub returns : goal.returns
returns c = all c.loop-i.invariant (search rules)
