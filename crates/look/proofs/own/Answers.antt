use native.Mathlib.Omega.{arith}
use mathlib.Core.Path.{refl}
use mathlib.Core.List.{List}
use Prim.Native.Nat.{ℕ}
use Rattle.meaning.specs.Refusal.{Entry}
use Rattle.theory.specs.Numbers.Decide.{holds, fails}
use Rattle.chain.specs.Given.{with}
use Rattle.look.specs.Says.{Upto, upto}
use Rattle.look.proofs.Refuse.{refuse, next, at_0, off, scanned, seen, scan, handed}
use Rattle.look.proofs.own.Goals as goal
use Rattle.look.proofs.own.Goals.{Else-goals_wrong}

pub returns-then-n-g : goal.returns-then-n-g
returns-then-n-g c x z o w t u = rw (c.from.ensures.0, c.from.ensures.1) (refuse u (at_0 c.if-n-g.true))

pub returns-then-goals_wrong : goal.returns-then-goals_wrong
returns-then-goals_wrong c x z o w t u =
    let e = c.from-then-goals_wrong.ensures in
    rw (e.0, e.1) (refuse (next u (off (λ f. omega arith))) (at_0 (holds _ c.goals_wrong.ensures c.if-goals_wrong.true)))

-- The start and the goals are right.
begun : (c : Else-goals_wrong) (x : Entry) (o w t : List ℕ) → Upto x (with c.args.g.now o w t) 3 → Upto x (with c.args.g.now o w t) 5
begun c x o w t u = next (next u (off (λ f. omega arith))) (off (fails _ c.goals_wrong.ensures c.if-goals_wrong.false))

pub returns-in_err-refuse : goal.returns-in_err-refuse
returns-in_err-refuse c x z o w t u =
    let a = begun (goal.at.returns-in_err-refuse c).Else-goals_wrong x o w t u in
    let f = rw c.requires.denominators_length at c.denominators.ensures in
    handed (upto x _ 10) _ _ c.from_residual.ensures.1 (seen a f refl c.in_err-refuse.ensures)

pub returns-in_err-refuse-2 : goal.returns-in_err-refuse-2
returns-in_err-refuse-2 c x z o w t u =
    let a = begun (goal.at.returns-in_err-refuse-2 c).Else-goals_wrong x o w t u in
    let f = rw c.requires.denominators_length at c.denominators.ensures in
    let b = scanned a f c.in_ok-refuse.ensures in
    handed (upto x _ 10) _ _ c.from_residual-in_err-refuse-2.ensures.1 (seen b c.ends.ensures refl c.in_err-refuse-2.ensures)

pub returns-in_err-refuse-3 : goal.returns-in_err-refuse-3
returns-in_err-refuse-3 c x z o w t u =
    let a = begun (goal.at.returns-in_err-refuse-3 c).Else-goals_wrong x o w t u in
    let f = rw c.requires.denominators_length at c.denominators.ensures in
    let b = scanned a f c.in_ok-refuse.ensures in
    let d = scanned b c.ends.ensures c.in_ok-refuse-2.ensures in
    handed (upto x _ 10) _ _ c.from_residual-in_err-refuse-3.ensures.1 (seen d c.weights.ensures refl c.in_err-refuse-3.ensures)

pub returns-in_err-refuse-4 : goal.returns-in_err-refuse-4
returns-in_err-refuse-4 c x z o w t u =
    let a = begun (goal.at.returns-in_err-refuse-4 c).Else-goals_wrong x o w t u in
    let f = rw c.requires.denominators_length at c.denominators.ensures in
    let b = scanned a f c.in_ok-refuse.ensures in
    let d = scanned b c.ends.ensures c.in_ok-refuse-2.ensures in
    let e = scanned d c.weights.ensures c.in_ok-refuse-3.ensures in
    handed (upto x _ 10) _ _ c.from_residual-in_err-refuse-4.ensures.1 (seen e c.repeated.ensures refl c.in_err-refuse-4.ensures)

pub returns : goal.returns
returns c x z o w t u =
    let f = rw c.requires.denominators_length at c.denominators.ensures in
    let a = begun (goal.at.returns c).Else-goals_wrong x o w t u in
    let b = scanned a f c.in_ok-refuse.ensures in
    let d = scanned b c.ends.ensures c.in_ok-refuse-2.ensures in
    let e = scanned d c.weights.ensures c.in_ok-refuse-3.ensures in
    let g = scanned e c.repeated.ensures c.in_ok-refuse-4.ensures in
    scan _ g (rw z c.first_wrong.ensures) _ refl _ c.refuse-5.ensures 10 refl
