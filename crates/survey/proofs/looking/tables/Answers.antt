use Prim.Native.Nat.{ℕ}
use mathlib.Core.Path.{◌≡◌, refl}
use mathlib.Core.Bool.{Bool}
use mathlib.Core.List.{List}
use lib.ListN.{length}
use Rattle.std.proofs.Common.{Option}
use Rattle.meaning.specs.Refusal.{eliminating, with_list}
use Rattle.chain.specs.Given.{with}
use Rattle.chain.specs.declared.given.Given.{Given}
use Rattle.theory.specs.Numbers.Decide.{holds, fails}
use Rattle.look.specs.Says.{Upto}
use Rattle.look.proofs.Refuse.{refuse, next, at_0, off, scanned, seen, shaped, handed}
use Rattle.survey.specs.Looking.{asked, size_of, so_far}
use Rattle.survey.proofs.Looked.{survey_refuses, survey_clears, wanted, lacking_in, lacking_out}
use Rattle.survey.proofs.looking.tables.Goals as goal
use Rattle.survey.proofs.looking.tables.Goals.{Else-lacking, Else-misshaped}

-- No number below k applies, whatever rewards of that length are lent, or none.
abbrev Right : Given → List ℕ → Option ℕ → List ℕ → Option ℕ → Bool → ℕ → Type 0
Right g order rewards work list short k =
    (w : List ℕ) → length w ≡ size_of rewards
    → Upto (eliminating (asked rewards) (asked list) short) (with_list (size_of list) (with g order w work)) k

up_2 : (c : Else-misshaped) → let a = c.args in Right a.g.now a.order.now a.rewards a.work.now a.list a.short 2
up_2 c w e = shaped (eliminating _ _ _) refl _ _ _ _ refl (wanted _ _ _ _ c.unwrap_or.ensures e) c.misshaped.ensures c.if-misshaped.false

up_3 : (c : Else-lacking) → let a = c.args in Right a.g.now a.order.now a.rewards a.work.now a.list a.short 3
up_3 c w e =
    next (shaped (eliminating _ _ _) refl _ _ _ _ refl (wanted _ _ _ _ c.unwrap_or.ensures e) c.misshaped.ensures c.if-misshaped.false)
    (off (λ h. fails _ c.lacking.ensures c.if-lacking.false (lacking_in _ _ c.args.list c.unwrap_or-2.ensures h)))

pub returns-then-lacking : goal.returns-then-lacking
returns-then-lacking c w e =
    let u = up_2 (goal.at.returns-then-lacking c).Else-misshaped w e in
    rw (c.from-then-lacking.ensures.0, c.from-then-lacking.ensures.1)
    (refuse u (at_0 (lacking_out _ _ c.args.list c.unwrap_or-2.ensures (holds _ c.lacking.ensures c.if-lacking.true))))

pub returns-in_err-found : goal.returns-in_err-found
returns-in_err-found c w e =
    handed (so_far _ _ 11) _ _ c.from_residual.ensures.1
    (survey_refuses (up_3 (goal.at.returns-in_err-found c).Else-lacking w e) c.along.ensures c.in_err-found.was)

pub returns-in_err-refuse : goal.returns-in_err-refuse
returns-in_err-refuse c w e =
    let s = survey_clears (up_3 (goal.at.returns-in_err-refuse c).Else-lacking w e) c.along.ensures c.in_ok-found.was in
    handed (so_far _ _ 11) _ _ c.from_residual-in_err-refuse.ensures.1 (seen s.0 c.order.ensures refl c.in_err-refuse.ensures)

pub returns : goal.returns
returns c w e =
    let s = survey_clears (up_3 (goal.at.returns c).Else-lacking w e) c.along.ensures c.in_ok-found.was in
    (scanned s.0 c.order.ensures c.in_ok-refuse.ensures, s.1)
