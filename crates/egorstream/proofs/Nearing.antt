-- From the near chances of a file to the face for C, whose numbers have room; and what it promises determines its answer.
use Prim.Native.Nat.{ℕ, ◌^◌, ◌<◌}
use mathlib.Core.Path.{◌≡◌, sym, subst, ◌∙◌}
use mathlib.Core.List.{List}
use native.Mathlib.Omega.{arith}
use Rattle.meaning.specs.Refusal.{Lent}
use Rattle.meaning.specs.Outcome.{refused, stopped, answered}
use Rattle.meaning.specs.Block.{Input}
use Rattle.meaning.specs.Near.{Near, near, NearOutcome}
use Rattle.meaning.specs.Miss.{MissOutcome}
use Rattle.meaning.specs.FileNear.{From, FileNear}
use Rattle.theory.proofs.Outcomes.NearSizes.{near_small, miss_small}
use Rattle.theory.proofs.Files.NearFile.{file_near_one, file_near_place}
use Rattle.near.specs.Answer.{told_between, told_near, told_miss}
use Rattle.near.specs.declared.answer.Figures.{Figures}
use Rattle.std.proofs.Common.{Result, Ok, Err}
use Rattle.chain.specs.Refusal.{number_of}
use Rattle.chain.specs.declared.refusal.Refusal.{Refusal}
use Rattle.egorstream.specs.Near.{Small, Surrounds, Tells, Replies, Nears}
use Rattle.egorstream.specs.declared.nearly.Around.{Around}
use Rattle.egorstream.specs.declared.nearly.Nearness.{Nearness}

-- The twos of an answer have room in four bytes.
near_twos : {l : Lent} {a : Near} {w : List ℕ} → NearOutcome l a w → a.twos < 2 ^ 32
near_twos (refused n p r e s) = rw e (omega arith)
near_twos (stopped n p f t e s) = absurd t
near_twos (answered f t g s) = let z = near_small _ f (answered f t g s) in omega (arith, z.twos)

miss_twos : {l : Lent} {a : Near} {w : List ℕ} → MissOutcome l a w → a.twos < 2 ^ 32
miss_twos (refused n p r e s) = rw e (omega arith)
miss_twos (stopped n p f t e s) = absurd t
miss_twos (answered f t g s) = let z = miss_small _ f (answered f t g s) in omega (arith, z.twos)

file_twos : {f : Input} {from : From} {a b : Near} → FileNear f from a b → (a.twos < 2 ^ 32) × (b.twos < 2 ^ 32)
file_twos (FileNear.file_refused n p r e d) = (rw e (omega arith), rw d (omega arith))
file_twos (FileNear.asked h w v o m) = (near_twos o, miss_twos m)

pub small : {f : Input} {from : From} (n : Result Figures Refusal) → FileNear f from (told_near n) (told_miss n) → Small n
small (Ok g) z = file_twos z
small (Err r) z = file_near_place z

pub nears : {f : Input} {from : From} (n : Result Figures Refusal) {r : Nearness} → FileNear f from (told_near n) (told_miss n) → Replies n r → Nears f from r
nears n z t = record { chance = told_near n; missing = told_miss n; outcome = z; tells = t }

-- What is replied, by what was found.
pub replied_found : (n : Result Figures Refusal) {g : Figures} (r : Nearness) → n ≡ Ok g → r.number ≡ 0 → r.place ≡ 0 → Surrounds (told_between g.chance) r.near
    → Surrounds (told_between g.miss) r.miss → Replies n r
replied_found n r e number place x y =
    subst (λ (n : Result Figures Refusal). Replies n r) (sym e) (record { number = number; place = place; near = x; miss = y })

-- A refusal's number and place are no part of its noughts.
noughts : (number place : ℕ) {s : Around} → Surrounds (near 0 0 0 0 0) s → Surrounds (near number place 0 0 0) s
noughts number place x = record { lower = x.lower; upper = x.upper; twos = x.twos; below = x.below; above = x.above }

pub replied_refused : (n : Result Figures Refusal) {x : Refusal} (r : Nearness) → n ≡ Err x → r.number ≡ number_of x.fault → r.place ≡ x.place
    → Surrounds (near 0 0 0 0 0) r.near → Surrounds (near 0 0 0 0 0) r.miss → Replies n r
replied_refused n {x = f} r e k p x y =
    subst (λ (n : Result Figures Refusal). Replies n r) (sym e) (record { number = k; place = p; near = noughts (number_of f.fault) f.place x; miss = noughts (number_of f.fault) f.place y })

-- The numbers determine the figures.
around_one : {a : Near} {s s' : Around} → Surrounds a s → Surrounds a s' → s ≡ s'
around_one x y =
    let l = x.lower ∙ sym y.lower in
    let u = x.upper ∙ sym y.upper in
    let t = x.twos ∙ sym y.twos in
    let b = x.below ∙ sym y.below in
    let h = x.above ∙ sym y.above in
    λ i.
    record {
      lower = l i;
      upper = u i;
      twos = t i;
      lower_digits = (b i).digits;
      lower_tens = (b i).tens;
      upper_digits = (h i).digits;
      upper_tens = (h i).tens;
    }

-- So do the two chances determine what is told of them.
pub tells_one : {a b c d : Near} (r r' : Nearness) → a ≡ c → b ≡ d → Tells a b r → Tells c d r' → r ≡ r'
tells_one {b = b} {c} r r' e h x q =
    let z = subst (λ (m : Near). Tells c m r) h (subst (λ (c : Near). Tells c b r) e x) in
    let number = z.number ∙ sym q.number in
    let place = z.place ∙ sym q.place in
    let chance = around_one z.near q.near in
    let miss = around_one z.miss q.miss in
    λ i. record { number = number i; place = place i; near = chance i; miss = miss i }

pub nears_unique : {f : Input} {from : From} (r r' : Nearness) → Nears f from r → Nears f from r' → r ≡ r'
nears_unique r r' x y = let e = file_near_one x.outcome y.outcome in tells_one r r' e.0 e.1 x.tells y.tells
