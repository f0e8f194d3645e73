use Rattle.std.proofs.Common.{ℕ, ◌*◌, ◌≡◌, List, length, refl, inl, arith}
use Rattle.meaning.specs.Chain.{edge_count}
use Rattle.meaning.specs.Refusal.{LookOutcome}
use Rattle.meaning.specs.Write.{file_size, filing}
use Rattle.theory.specs.Outcomes.Bare.{bare_refuses, bare_clears}
use Rattle.theory.specs.Outcomes.Formed.{room_enough}
use Rattle.theory.specs.Numbers.Decide.{holds, fails}
use Rattle.chain.specs.Given.{with}
use Rattle.chain.specs.declared.refusal.Fault.TheVariants as fault
use Rattle.look.specs.Says.{Looks, Upto}
use Rattle.look.proofs.Refuse.{refuse, next, begin, at_0, off, seen, scanned, scan, handed, settle, refusing, clear}
use Rattle.chainwriter.proofs.look.Goals as goal
use Rattle.chainwriter.proofs.look.Goals.{After-total, Else-misshaped, Else-room-total, In_ok-bare}

up_2 : (c : Else-misshaped) (w : List ℕ) → let a = c.args in Upto filing (with a.g.now a.order.now a.rewards.now w) 2
up_2 c w = next (begin filing _) (off (fails _ c.misshaped.ensures c.if-misshaped.false))

-- How long the file is.
size : (c : After-total) → let g = c.args.g.now in file_size g.chain.states (edge_count g.edges.now) ≡ 512 * c.total.result
size c = omega (arith, c.total.ensures.0, c.count.ensures)

up_3 : (c : Else-room-total) (w : List ℕ) → let a = c.args in
    let l = with a.g.now a.order.now a.rewards.now w in
    file_size a.g.now.chain.states (edge_count a.g.now.edges.now) ≡ 512 * c.total.result → length w ≡ a.room → Upto filing l 2 → Upto filing l 3
up_3 c w s e u = next u (off (room_enough (omega (arith, s, e, c.if-room-total.false)) (omega arith)))

up_10 : (c : In_ok-bare) (w : List ℕ) → let a = c.args in
    let l = with a.g.now a.order.now a.rewards.now w in
    Upto filing l 3 → Upto filing l 10
up_10 c w u = record { clear = λ k h p a. bare_clears filing _ (λ k p h a. u.clear k h p a) (clear c.in_ok-bare.ensures refl) k p h a }

pub returns-then-misshaped : goal.returns-then-misshaped
returns-then-misshaped c w e =
    let f = c.from.ensures in
    LookOutcome.refused _ _ (rw (f.0, f.1) (refuse (begin filing _) (at_0 (holds _ c.misshaped.ensures c.if-misshaped.true)))) refl

pub returns-then-room-total : goal.returns-then-room-total
returns-then-room-total c w e =
    let here = goal.at.returns-then-room-total c in
    let f = c.from-then-room-total.ensures in
    LookOutcome.refused _ _ (rw (f.0, f.1) (refuse (up_2 here.Else-misshaped w) (at_0 (inl (omega (arith, size here.After-total, e, c.if-room-total.true)))))) refl

pub returns-in_err-bare : goal.returns-in_err-bare
returns-in_err-bare c w e =
    let here = goal.at.returns-in_err-bare c in
    let a = c.args in
    let u = up_3 here.Else-room-total w (size here.After-total) e (up_2 here.Else-misshaped w) in
    handed (λ f. Looks filing (with a.g.now a.order.now a.rewards.now w) f) c.from_residual.result _ c.from_residual.ensures.1
    (LookOutcome.refused _ _ (bare_refuses filing _ (λ k p h a. u.clear k h p a) (refusing c.in_err-bare.ensures refl)) refl)

pub returns-in_err-refuse : goal.returns-in_err-refuse
returns-in_err-refuse c w e =
    let here = goal.at.returns-in_err-refuse c in
    let a = c.args in
    let u = up_3 here.Else-room-total w (size here.After-total) e (up_2 here.Else-misshaped w) in
    handed (λ f. Looks filing (with a.g.now a.order.now a.rewards.now w) f) c.from_residual-in_err-refuse.result _ c.from_residual-in_err-refuse.ensures.1
    (LookOutcome.refused _ _ (seen (up_10 here.In_ok-bare w u) c.order.ensures {fault = fault.Order} refl c.in_err-refuse.ensures) refl)

pub returns : goal.returns
returns c w e =
    let here = goal.at.returns c in
    let u = up_3 here.Else-room-total w (size here.After-total) e (up_2 here.Else-misshaped w) in
    let v = scanned (up_10 here.In_ok-bare w u) c.order.ensures c.in_ok-refuse.ensures in
    settle filing _ 12 _ (λ u. u) (scan _ v c.too_large.ensures fault.Reward refl _ c.refuse-2.ensures 12 refl)
