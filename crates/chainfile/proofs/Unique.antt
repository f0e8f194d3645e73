-- What each reader promises determines its answer, case and all, and the tables afterwards.
use Rattle.std.proofs.Common.{ℕ, ◌≡◌, List, Result, Ok, Err, ap, ap₂, arith}
use Rattle.meaning.specs.Block.{Input}
use Rattle.meaning.specs.File.{Tables, Reading as Answer, ReadOutcome}
use Rattle.meaning.specs.Salvage.{Salvage, SalvageOutcome}
use Rattle.theory.specs.Files.FileOne.{read_one}
use Rattle.theory.specs.Files.SalvageOne.{salvage_read_one}
use Rattle.chain.specs.declared.Chain.{Chain}
use Rattle.chain.specs.declared.refusal.Refusal.{Refusal}
use Rattle.chain.proofs.Faults.{above_0, one_refusal}
use Rattle.chain.proofs.Unique.{framed}
use Rattle.chainfile.specs.declared.Book.{Book}
use Rattle.chainfile.specs.declared.Left.{Left}
use Rattle.chainfile.specs.Tells.{OpenOutcome, told, told_left}
use Rattle.chainfile.proofs.Opening.{open_one}

-- An answer's numbers determine its case: a refusal has a number above 0.
number : {a b : Answer} → a ≡ b → a.number ≡ b.number
number e = ap (λ (a : Answer). a.number) e

book_one : (b d : Book) → told (Ok b) ≡ told (Ok d) → b ≡ d
book_one b d e =
    ap₂ (λ (c : Chain) (x : ℕ). record { chain = c; edges = x })
    (framed (ap (λ (a : Answer). a.states) e) (ap (λ (a : Answer). a.start) e) (ap (λ (a : Answer). a.goals) e))
    (ap (λ (a : Answer). a.edges) e)

pub told_one : (r r' : Result Book Refusal) → told r ≡ told r' → r ≡ r'
told_one (Ok b) (Ok d) e = ap (λ (b : Book). Ok b) (book_one b d e)
told_one (Ok b) (Err s) e = absurd (omega (arith, number e, above_0 s.fault))
told_one (Err r) (Ok d) e = absurd (omega (arith, number e, above_0 r.fault))
told_one (Err r) (Err s) e = ap (λ (r : Refusal). Err r) (one_refusal r s (number e) (ap (λ (a : Answer). a.place) e))

pub unique : (f : Input) (t after after' : Tables) (r r' : Result Book Refusal) → ReadOutcome f t (told r) after → ReadOutcome f t (told r') after'
    → (r ≡ r') × (after ≡ after')
unique f t after after' r r' o o' = let e = read_one o o' in (told_one r r' e.0, e.1)

pub open_unique : (f : Input) (t after after' : Tables) (r r' : Result Book Refusal) → OpenOutcome f t (told r) after → OpenOutcome f t (told r') after'
    → (r ≡ r') × (after ≡ after')
open_unique f t after after' r r' o o' = let e = open_one o o' in (told_one r r' e.0, e.1)

-- So does what the salvaging reader promises.
reading : {a b : Salvage} → a ≡ b → a.reading ≡ b.reading
reading e = ap (λ (a : Salvage). a.reading) e

left_one : (r r' : Result Left Refusal) → told_left r ≡ told_left r' → r ≡ r'
left_one (Ok l) (Ok m) e =
    ap₂ (λ (b : Book) (lost : List ℕ). Ok (record { book = b; lost = lost })) (book_one l.book m.book (reading e)) (ap (λ (a : Salvage). a.lost) e)
left_one (Ok l) (Err s) e = absurd (omega (arith, number (reading e), above_0 s.fault))
left_one (Err r) (Ok m) e = absurd (omega (arith, number (reading e), above_0 r.fault))
left_one (Err r) (Err s) e =
    ap (λ (r : Refusal). Err r) (one_refusal r s (number (reading e)) (ap (λ (a : Answer). a.place) (reading e)))

pub left_unique : (f : Input) (t after after' : Tables) (r r' : Result Left Refusal) → SalvageOutcome f t (told_left r) after → SalvageOutcome f t (told_left r') after'
    → (r ≡ r') × (after ≡ after')
left_unique f t after after' r r' o o' = let e = salvage_read_one o o' in (left_one r r' e.0, e.1)
