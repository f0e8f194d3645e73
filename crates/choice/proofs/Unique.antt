-- Two choices that are promised of one input are the same: the case of the answer, and the list.
use Prim.Native.Nat.{ℕ}
use mathlib.Core.Path.{◌≡◌, ap}
use mathlib.Core.List.{List}
use native.Mathlib.Omega.{arith}
use Rattle.std.proofs.Common.{Result, Ok, Err}
use Rattle.meaning.specs.Refusal.{Lent}
use Rattle.meaning.specs.Choice.{Choice as Numbers}
use Rattle.theory.specs.Outcomes.Choice.{choice_one}
use Rattle.chain.specs.declared.refusal.Refusal.{Refusal}
use Rattle.chain.proofs.Faults.{above_0, one_refusal}
use Rattle.choice.specs.Told.{told, Chooses}

numbers_one : (r r' : Result ℕ Refusal) → told r ≡ told r' → r ≡ r'
numbers_one (Ok s) (Ok s') e = ap (λ (s : ℕ). Ok s) (ap (λ (a : Numbers). a.sum) e)
numbers_one (Ok s) (Err q) e = absurd (omega (arith, above_0 q.fault, ap (λ (a : Numbers). a.number) e))
numbers_one (Err q) (Ok s) e = absurd (omega (arith, above_0 q.fault, ap (λ (a : Numbers). a.number) e))
numbers_one (Err q) (Err q') e =
    ap (λ (q : Refusal). Err q) (one_refusal q q' (ap (λ (a : Numbers). a.number) e) (ap (λ (a : Numbers). a.place) e))

pub choice_unique : {l : Lent} {before after after' : List ℕ} (r r' : Result ℕ Refusal) → Chooses l before r after → Chooses l before r' after'
    → (r ≡ r') × (after ≡ after')
choice_unique r r' x y = let o = choice_one x y in (numbers_one r r' o.0, o.1)
