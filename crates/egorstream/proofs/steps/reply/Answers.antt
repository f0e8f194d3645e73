use Prim.Native.Nat.{◌+◌, ◌≤◌}
use mathlib.Core.Path.{refl, sym, ap, subst}
use native.Mathlib.Omega.{arith}
use Rattle.meaning.specs.Chain.{most_states, most_edges}
use Rattle.engines.specs.Answer.{told_chance}
use Rattle.std.proofs.Common.{Result}
use Rattle.chain.specs.declared.fraction.Fraction.{Fraction}
use Rattle.chain.specs.declared.refusal.Refusal.{Refusal}
use Rattle.egorstream.proofs.steps.reply.Goals as goal

pub overflow_cast-result : goal.overflow_cast-result
overflow_cast-result c =
    omega (arith, subst (λ (x : Result Fraction Refusal). (told_chance x).place ≤ most_states + most_edges) c.in-Err.is c.requires)

pub returns-in-Ok : goal.returns-in-Ok
returns-in-Ok c = record { answer = sym (ap told_chance c.in-Ok.is); count = refl }

pub returns-in-Err : goal.returns-in-Err
returns-in-Err c = rw c.number.ensures.0 (record { answer = sym (ap told_chance c.in-Err.is); count = refl })
