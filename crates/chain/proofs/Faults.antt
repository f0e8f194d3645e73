-- Document 01's numbers name the faults: each is above 0, and no two faults have the same.
use Prim.Native.Nat.{ℕ, ◌<◌}
use mathlib.Core.Path.{◌≡◌, refl, sym, ap, ap₂, ◌∙◌}
use native.Mathlib.Omega.{arith}
use lib.Dec.{eqb}
use Rattle.meaning.specs.Number.{choose}
use Rattle.chain.specs.declared.refusal.Fault.{Fault}
use Rattle.chain.specs.declared.refusal.Fault.TheVariants as fault
use Rattle.chain.specs.declared.refusal.Refusal.{Refusal}
use Rattle.chain.specs.Refusal.{number_of}

-- The fault of a number, and any other where there is none.
abbrev fault_of : ℕ → Fault
fault_of n =
    choose (eqb n 1) fault.Length (
    choose (eqb n 2) fault.Room (
    choose (eqb n 3) fault.Start (
    choose (eqb n 4) fault.Goals (
    choose (eqb n 5) fault.Denominator (
    choose (eqb n 6) fault.EdgeState (
    choose (eqb n 7) fault.Weight (
    choose (eqb n 8) fault.EdgeGivenBefore (
    choose (eqb n 9) fault.RowSum (
    choose (eqb n 10) fault.Order (
    choose (eqb n 11) fault.Reward (
    choose (eqb n 12) fault.NoFit (
    choose (eqb n 20) fault.FileLength (
    choose (eqb n 21) fault.BlockCheck (
    choose (eqb n 22) fault.BlockNumber (
    choose (eqb n 23) fault.BlockKind (
    choose (eqb n 24) fault.BlockContent (
    choose (eqb n 30) fault.Copies (
    choose (eqb n 31) fault.PlanWeight (
    choose (eqb n 32) fault.Steps (
    choose (eqb n 33) fault.TableDenominator (
    choose (eqb n 34) fault.TableNumerator (
    choose (eqb n 35) fault.Limit (
    choose (eqb n 40) fault.Line (
    fault.TextLength))))))))))))))))))))))))

back : (f : Fault) → fault_of (number_of f) ≡ f
back fault.Length = refl
back fault.Room = refl
back fault.Start = refl
back fault.Goals = refl
back fault.Denominator = refl
back fault.EdgeState = refl
back fault.Weight = refl
back fault.EdgeGivenBefore = refl
back fault.RowSum = refl
back fault.Order = refl
back fault.Reward = refl
back fault.NoFit = refl
back fault.FileLength = refl
back fault.BlockCheck = refl
back fault.BlockNumber = refl
back fault.BlockKind = refl
back fault.BlockContent = refl
back fault.Copies = refl
back fault.PlanWeight = refl
back fault.Steps = refl
back fault.TableDenominator = refl
back fault.TableNumerator = refl
back fault.Limit = refl
back fault.Line = refl
back fault.TextLength = refl

pub one_fault : (f g : Fault) → number_of f ≡ number_of g → f ≡ g
one_fault f g e = sym (back f) ∙ ap fault_of e ∙ back g

pub above_0 : (f : Fault) → 0 < number_of f
above_0 fault.Length = omega arith
above_0 fault.Room = omega arith
above_0 fault.Start = omega arith
above_0 fault.Goals = omega arith
above_0 fault.Denominator = omega arith
above_0 fault.EdgeState = omega arith
above_0 fault.Weight = omega arith
above_0 fault.EdgeGivenBefore = omega arith
above_0 fault.RowSum = omega arith
above_0 fault.Order = omega arith
above_0 fault.Reward = omega arith
above_0 fault.NoFit = omega arith
above_0 fault.FileLength = omega arith
above_0 fault.BlockCheck = omega arith
above_0 fault.BlockNumber = omega arith
above_0 fault.BlockKind = omega arith
above_0 fault.BlockContent = omega arith
above_0 fault.Copies = omega arith
above_0 fault.PlanWeight = omega arith
above_0 fault.Steps = omega arith
above_0 fault.TableDenominator = omega arith
above_0 fault.TableNumerator = omega arith
above_0 fault.Limit = omega arith
above_0 fault.Line = omega arith
above_0 fault.TextLength = omega arith

-- A refusal is known by its number and its place.
pub one_refusal : (r s : Refusal) → number_of r.fault ≡ number_of s.fault → r.place ≡ s.place → r ≡ s
one_refusal r s e p = ap₂ (λ (f : Fault) (place : ℕ). record { fault = f; place = place }) (one_fault r.fault s.fault e) p
