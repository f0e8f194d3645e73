-- What the entry promises of one input is one answer, and one work table.
use Rattle.std.proofs.Common.{◌≡◌, ℕ, List, Result, Ok, Err, ap, arith}
use Rattle.meaning.specs.Refusal.{Lent}
use Rattle.meaning.specs.Near.{Near, NearOutcome}
use Rattle.meaning.specs.Miss.{MissOutcome}
use Rattle.theory.specs.Outcomes.NearOne.{near_determined}
use Rattle.theory.specs.Outcomes.MissOne.{miss_determined}
use Rattle.chain.specs.declared.refusal.Refusal.{Refusal}
use Rattle.chain.proofs.Faults.{above_0, one_refusal}
use Rattle.elimination.specs.Own.{Found as Own}
use Rattle.near.specs.Answer.{told_between, told_near, told_miss}
use Rattle.near.specs.declared.answer.Between.{Between}
use Rattle.near.specs.declared.answer.Figures.{Figures}

between_one : (x y : Between) → told_between x ≡ told_between y → x ≡ y
between_one x y e =
    let l = ap (λ (a : Near). a.lower) e in
    let u = ap (λ (a : Near). a.upper) e in
    let t = ap (λ (a : Near). a.twos) e in
    λ i. record { lower = l i; upper = u i; twos = t i }

pub told_one : (r r' : Result Figures Refusal) → told_near r ≡ told_near r' → told_miss r ≡ told_miss r' → r ≡ r'
told_one (Ok f) (Ok g) a b =
    let x = between_one f.chance g.chance a in
    let y = between_one f.miss g.miss b in
    λ i. Ok (record { chance = x i; miss = y i })
told_one (Ok f) (Err q) a b = absurd (omega (arith, above_0 q.fault, ap (λ (z : Near). z.number) a))
told_one (Err q) (Ok f) a b = absurd (omega (arith, above_0 q.fault, ap (λ (z : Near). z.number) a))
told_one (Err q) (Err q') a b =
    ap (λ (q : Refusal). Err q) (one_refusal q q' (ap (λ (z : Near). z.number) a) (ap (λ (z : Near). z.place) a))

pub near_unique : {l : Lent} {w w' : List ℕ} (r r' : Result Figures Refusal) → NearOutcome l (told_near r) w × MissOutcome l (told_miss r) w
    → NearOutcome l (told_near r') w' × MissOutcome l (told_miss r') w' → (r ≡ r') × (w ≡ w')
near_unique {l} r r' x y =
    let n = near_determined l x.0 y.0 in
    (told_one r r' n.0 (miss_determined l x.1 y.1).0, n.1)

-- The same where the work table is the entry's own.
pub near_unlent_unique : {l : Lent} (r r' : Result Figures Refusal) → Own (NearOutcome l) (told_near r) × Own (MissOutcome l) (told_miss r)
    → Own (NearOutcome l) (told_near r') × Own (MissOutcome l) (told_miss r') → r ≡ r'
near_unlent_unique {l} r r' x y =
    told_one r r' (near_determined l x.0.outcome y.0.outcome).0 (miss_determined l x.1.outcome y.1.outcome).0
