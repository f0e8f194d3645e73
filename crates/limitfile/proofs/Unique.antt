-- What is promised of a file and a limit determines the answer.
use mathlib.Core.Path.{◌≡◌, refl, ap}
use Rattle.meaning.specs.Block.{Input}
use Rattle.meaning.specs.Limit.{Limit}
use Rattle.meaning.specs.Near.{Near}
use Rattle.meaning.specs.FileLimit.{FileLimit}
use Rattle.std.proofs.Common.{Result, Ok, Err}
use Rattle.chain.specs.Refusal.{number_of}
use Rattle.chain.specs.declared.refusal.Refusal.{Refusal}
use Rattle.chain.proofs.Faults.{one_refusal}
use Rattle.near.specs.Answer.{told_between}
use Rattle.near.specs.declared.answer.Between.{Between}
use Rattle.limitfile.specs.Told.{told_verdict, told_limited}
use Rattle.limitfile.specs.declared.Verdict.{Verdict}
use Rattle.limitfile.specs.declared.Verdict.TheVariants.{Kept, Broken, Open}
use Rattle.limitfile.specs.declared.Limited.{Limited}
use Rattle.theory.proofs.Limits.File.{file_limit_one}

-- Each verdict is told in its own way, and so are the fractions.
verdict_one : (v v' : Verdict) → told_verdict v ≡ told_verdict v' → v ≡ v'
verdict_one Kept Kept e = refl
verdict_one Kept Broken e = cc
verdict_one Kept Open e = cc
verdict_one Broken Kept e = cc
verdict_one Broken Broken e = refl
verdict_one Broken Open e = cc
verdict_one Open Kept e = cc
verdict_one Open Broken e = cc
verdict_one Open Open e = refl

between_one : (x y : Between) → told_between x ≡ told_between y → x ≡ y
between_one x y e =
    let l = ap (λ (a : Near). a.lower) e in
    let u = ap (λ (a : Near). a.upper) e in
    let t = ap (λ (a : Near). a.twos) e in
    λ i. record { lower = l i; upper = u i; twos = t i }

limited_one : (r r' : Result Limited Refusal) → told_limited r ≡ told_limited r' → r ≡ r'
limited_one (Ok x) (Ok y) e =
    let v : told_verdict x.verdict ≡ told_verdict y.verdict = cc in
    let b : told_between x.chance ≡ told_between y.chance = cc in
    let p = verdict_one x.verdict y.verdict v in
    let q = between_one x.chance y.chance b in
    λ i. Ok (record { verdict = p i; chance = q i })
limited_one (Ok x) (Err q) e = cc
limited_one (Err q) (Ok x) e = cc
limited_one (Err q) (Err q') e =
    let n : number_of q.fault ≡ number_of q'.fault = cc in
    let p : q.place ≡ q'.place = cc in
    ap (λ (q : Refusal). Err q) (one_refusal q q' n p)

pub limit_unique : {f : Input} {m : Limit} (r r' : Result Limited Refusal) → FileLimit f m (told_limited r) → FileLimit f m (told_limited r') → r ≡ r'
limit_unique r r' o o' = limited_one r r' (file_limit_one o o')
