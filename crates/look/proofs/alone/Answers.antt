use mathlib.Core.Path.{refl}
use mathlib.Core.List.{[]}
use native.Mathlib.Omega.{arith}
use lib.Dec.{lit<}
use Rattle.meaning.specs.Refusal.{bare_of}
use Rattle.theory.specs.Outcomes.Formed.{room_enough}
use Rattle.chain.specs.Given.{with}
use Rattle.look.specs.Says.{Upto}
use Rattle.look.proofs.Refuse.{next, misshapen, shaped, sized, settle}
use Rattle.meaning.specs.Refusal.{refused as refused_by}
use Rattle.look.proofs.alone.Goals as goal
use Rattle.look.proofs.alone.Goals.{Else-misshaped}

-- Numbers 2, 10 and 11 are passed over: their tables are not lent.
up_3 : (c : Else-misshaped) → Upto (bare_of c.args.short) (with c.args.g.now [] [] []) 3
up_3 c = next (shaped (bare_of _) refl _ _ _ _ (refl, refl) (refl, refl) c.misshaped.ensures c.if-misshaped.false) (λ p a. room_enough (omega arith) (omega arith) a.1)

pub returns-then-misshaped : goal.returns-then-misshaped
returns-then-misshaped c =
    rw (c.from.ensures.0, c.from.ensures.1) (refused_by 1 0 (misshapen (bare_of _) refl (with c.args.g.now [] [] []) _ _ _ (refl, refl) (refl, refl) c.misshaped.ensures c.if-misshaped.true) refl)

pub own-requires : goal.own-requires
own-requires c = sized (up_3 c) (lit< tt)

pub returns : goal.returns
returns c =
    settle (bare_of _) (with c.args.g.now [] [] []) 10 c.own.result (λ u. next (next u (λ p a. a)) (λ p a. a))
    (c.own.ensures (bare_of _) refl [] [] [] (up_3 (goal.at.returns c).Else-misshaped))
