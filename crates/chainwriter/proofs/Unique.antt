-- What the writer promises determines its answer, case and all, and the buffer afterwards.
use Rattle.std.proofs.Common.{ℕ, ◌≡◌, List, Ok, Err, ap, arith}
use Rattle.meaning.specs.Refusal.{Lent}
use Rattle.meaning.specs.Buffer.{Writing as Numbers}
use Rattle.meaning.specs.Write.{WriteOutcome}
use Rattle.theory.specs.Files.Written.{write_one}
use Rattle.chain.specs.declared.refusal.Refusal.{Refusal}
use Rattle.chain.proofs.Faults.{above_0, one_refusal}
use Rattle.chainwriter.specs.Tells.{Writing, told}

-- An answer's numbers determine its case: a refusal has a number above 0.
number : {a b : Numbers} → a ≡ b → a.number ≡ b.number
number e = ap (λ (a : Numbers). a.number) e

pub told_one : (r r' : Writing) → told r ≡ told r' → r ≡ r'
told_one (Ok n) (Ok m) e = ap (λ (n : ℕ). Ok n) (ap (λ (a : Numbers). a.written) e)
told_one (Ok n) (Err s) e = absurd (omega (arith, number e, above_0 s.fault))
told_one (Err r) (Ok m) e = absurd (omega (arith, number e, above_0 r.fault))
told_one (Err r) (Err s) e = ap (λ (r : Refusal). Err r) (one_refusal r s (number e) (ap (λ (a : Numbers). a.place) e))

pub unique : {l : Lent} {after after' : List ℕ} (r r' : Writing) → WriteOutcome l (told r) after
    → WriteOutcome l (told r') after'
    → (r ≡ r') × (after ≡ after')
unique r r' o o' = let e = write_one o o' in (told_one r r' e.0, e.1)
