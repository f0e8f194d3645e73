-- What is promised of a chain and a number of steps, or a table, determines the answer, case and all.
use Prim.Native.Nat.{ℕ}
use mathlib.Core.Path.{◌≡◌, refl, ap}
use mathlib.Core.List.{List}
use native.Mathlib.Omega.{arith}
use Rattle.std.proofs.Common.{Result, Ok, Err}
use Rattle.meaning.specs.Refusal.{Lent}
use Rattle.meaning.specs.Within.{Within}
use Rattle.meaning.specs.Judge.{JudgeOutcome}
use Rattle.theory.specs.Rounds.Answers.{within_one}
use Rattle.theory.specs.Judging.Verdicts.{judge_one}
use Rattle.chain.specs.Refusal.{number_of}
use Rattle.chain.specs.declared.refusal.Refusal.{Refusal}
use Rattle.chain.proofs.Faults.{above_0, one_refusal}
use Rattle.equations.specs.Told.{told, Withins}
use Rattle.equations.specs.Judge.{told as told_verdict}
use Rattle.equations.specs.declared.verdict.Verdict.{Verdict}
use Rattle.equations.specs.declared.verdict.Verdict.TheVariants as verdict

-- The numbers of an answer, a refusal's above 0, determine it.
pub told_one : (r r' : Result ℕ Refusal) → told r ≡ told r' → r ≡ r'
told_one (Ok x) (Ok x') e = ap (λ (x : ℕ). Ok x) (ap (λ (a : Within). a.parts) e)
told_one (Ok x) (Err q) e = absurd (omega (arith, above_0 q.fault, ap (λ (a : Within). a.number) e))
told_one (Err q) (Ok x) e = absurd (omega (arith, above_0 q.fault, ap (λ (a : Within). a.number) e))
told_one (Err q) (Err q') e =
    ap (λ (q : Refusal). Err q) (one_refusal q q' (ap (λ (a : Within). a.number) e) (ap (λ (a : Within). a.place) e))

pub within_unique : (l : Lent) (k : ℕ) (r r' : Result ℕ Refusal) → Withins l k r → Withins l k r' → r ≡ r'
within_unique l k r r' w w' = told_one r r' (within_one w w')

-- Each case of a verdict is told in its own way.
pub told_verdict_lem : (r r' : Result Verdict Refusal) → told_verdict r ≡ told_verdict r' → r ≡ r'
told_verdict_lem (Ok verdict.Yes) (Ok verdict.Yes) e = refl
told_verdict_lem (Ok verdict.Yes) (Ok (verdict.No j)) e = cc
told_verdict_lem (Ok verdict.Yes) (Err q) e = cc
told_verdict_lem (Ok (verdict.No i)) (Ok verdict.Yes) e = cc
told_verdict_lem (Ok (verdict.No i)) (Ok (verdict.No j)) e = cc
told_verdict_lem (Ok (verdict.No i)) (Err q) e = cc
told_verdict_lem (Err q) (Ok verdict.Yes) e = cc
told_verdict_lem (Err q) (Ok (verdict.No j)) e = cc
told_verdict_lem (Err q) (Err q') e =
    let n : number_of q.fault ≡ number_of q'.fault = cc in
    let p : q.place ≡ q'.place = cc in
    ap (λ (q : Refusal). Err q) (one_refusal q q' n p)

pub check_unique : {l : Lent} {d : ℕ} {table : List ℕ} (r r' : Result Verdict Refusal) → JudgeOutcome l d table (told_verdict r) → JudgeOutcome l d table (told_verdict r')
    → r ≡ r'
check_unique r r' o o' = told_verdict_lem r r' (judge_one o o')
