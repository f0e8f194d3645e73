use Prim.Native.Nat.{ℕ}
use native.Mathlib.Omega.{arith}
use lib.ListN.{get_or-replicate}
use Rattle.meaning.specs.Chain.{most_states}
use Rattle.elimination.proofs.pay.earnings.Goals as goal

pub of_states-requires : goal.of_states-requires
of_states-requires c = c.requires.earnable c.if-paid.true

pub returns-then-paid : goal.returns-then-paid
returns-then-paid c = rw c.if-paid.true c.of_states.ensures

pub returns : goal.returns
returns c = λ i h. rw c.if-paid.false (get_or-replicate {A = ℕ} most_states i 0 0 (omega (arith, h, c.requires.few_states)))
