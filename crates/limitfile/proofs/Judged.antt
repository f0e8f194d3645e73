-- What is said of a file, from what its near and its exact chance are found to be.
use Prim.Native.Nat.{ℕ, ◌+◌, ◌*◌, ◌^◌, ◌≤◌, ◌<◌}
use mathlib.Core.Path.{◌≡◌, ap, ap₂, subst}
use native.Mathlib.Omega.{arith}
use native.Mathlib.Nat.{mul-le-mul}
use Rattle.meaning.specs.Chain.{M, most_states, most_edges}
use Rattle.meaning.specs.Outcome.{Answer, ChanceOutcome}
use Rattle.meaning.specs.Outcome as outcome
use Rattle.meaning.specs.Block.{Input}
use Rattle.meaning.specs.File.{Accepted, plain_in}
use Rattle.meaning.specs.Near.{Near, NearFigure}
use Rattle.meaning.specs.FileNear.{FileNear, own}
use Rattle.meaning.specs.Limit.{Limit, IsLimit, most_said}
use Rattle.meaning.specs.FileLimit.{Verdict, kept, broken, undecided, near_verdict, verdict_by, figure_keeps, refused, judged, FileLimit}
use Rattle.meaning.specs.FileLimit as meant
use Rattle.theory.specs.Outcomes.Small.{chance_small}
use Rattle.theory.specs.Outcomes.Places.{refused_places}
use Rattle.theory.specs.Files.FileOne.{file_numbers, accepted_unrefused}
use Rattle.theory.specs.Files.StepsOne.{file_place}
use Rattle.elimination.specs.Own.{Found}
use Rattle.near.specs.Answer.{told_between, told_near, told_miss}
use Rattle.near.specs.declared.answer.Figures.{Figures}
use Rattle.std.proofs.Common.{Result, Ok, Err, IfOk}
use Rattle.chain.specs.Refusal.{number_of}
use Rattle.chain.specs.declared.fraction.Fraction.{Fraction}
use Rattle.chain.specs.declared.refusal.Refusal.{Refusal}
use Rattle.chain.proofs.Faults.{above_0}
use Rattle.engines.specs.Answer.{told_chance}
use Rattle.figures.specs.Found.{FileFound, FileChance}

-- The limit's digits times a number up to M fit in 64 bits.
pub product_fits : (a q : ℕ) → a ≤ most_said → q ≤ M → a * q < 2 ^ 64
product_fits a q h l = let m = mul-le-mul {n₂ = most_said} {m₂ = M} h l in omega arith

pub exact_few : {f : Input} (r : Result Fraction Refusal) → FileChance f (told_chance r) → IfOk r (λ x. x.denominator ≤ M)
exact_few (Ok x) (FileFound.refused n p w e) = omega (arith, ap (λ (a : Answer). a.denominator) e)
exact_few (Ok x) (FileFound.accepted a z) = (chance_small z.outcome).denominator
exact_few (Err q) z = tt

code_of : {a b : Near} → a ≡ b → a.number ≡ b.number
code_of e = ap (λ (a : Near). a.number) e

place_of : {a b : Near} → a ≡ b → a.place ≡ b.place
place_of e = ap (λ (a : Near). a.place) e

figure_number : {l : _} {a : Near} → NearFigure l a → a.number ≡ 0
figure_number (NearFigure.won g e) = code_of e
figure_number (NearFigure.lost g e) = code_of e
figure_number (NearFigure.live k r v e) = code_of e

module _ {f : Input} {m : Limit} (limit : IsLimit m) (r : Result Figures Refusal) (w : FileNear f own (told_near r) (told_miss r)) where
  -- A refusal.
  pub limit_refused : {x : Refusal} → r ≡ Err x → FileLimit f m (refused (number_of x.fault) x.place)
  limit_refused {x} q = go (subst (λ (r : Result Figures Refusal). FileNear f own (told_near r) (told_miss r)) q w)
    where
      go : FileNear f own (told_near (Err x)) (told_miss (Err x)) → FileLimit f m (refused (number_of x.fault) x.place)
      go (FileNear.file_refused n p h e d) = FileLimit.file_refused limit n p h (ap₂ refused (code_of e) (place_of e))
      go (FileNear.asked h w v (outcome.refused n p z e s) o) = FileLimit.chain_refused limit h n p z (ap₂ refused (code_of e) (place_of e))
      go (FileNear.asked h w v (outcome.stopped n p z t e s) o) = absurd t
      go (FileNear.asked h w v (outcome.answered z t g s) o) = absurd (let e = figure_number g in omega (arith, above_0 x.fault))

  -- A verdict, by the exact chance that was asked for.
  pub limit_judged : {g : Figures} (a : Result Fraction Refusal) {v : Verdict} → r ≡ Ok g → FileChance f (told_chance a)
      → v ≡ verdict_by m (told_chance a) (told_between g.chance) → FileLimit f m (judged v (told_between g.chance))
  limit_judged {g} a {v} q asked e = go (subst (λ (r : Result Figures Refusal). FileNear f own (told_near r) (told_miss r)) q w)
    where
      exact : Accepted f → FileChance f (told_chance a) → Found (ChanceOutcome (plain_in f)) (told_chance a)
      exact h (FileFound.refused n p z e) = absurd (accepted_unrefused h z)
      exact h (FileFound.accepted h' x) = x

      go : FileNear f own (told_near (Ok g)) (told_miss (Ok g)) → FileLimit f m (judged v (told_between g.chance))
      go (FileNear.file_refused n p h e d) = absurd (omega (arith, (file_numbers h).0, code_of e))
      go (FileNear.asked h w v' (outcome.refused n p z e' s) o) = absurd (omega (arith, (refused_places n p z).0, code_of e'))
      go (FileNear.asked h w v' (outcome.stopped n p z t e' s) o) = absurd t
      go (FileNear.asked h w v' (outcome.answered z t y s) o) =
          let x = exact h asked in
          FileLimit.asked limit h z (told_chance a) (told_between g.chance) x.work w x.outcome (outcome.answered z t y s) (ap (λ (v : Verdict). judged v (told_between g.chance)) e)

-- A refusal has a number, and its place has room in the 32 bits of C.
abbrev pub Proper : meant.Limited → Type 0
Proper (refused number place) = (0 < number) × (place ≤ most_states + most_edges)
Proper (judged v chance) = Unit {0}

pub limit_proper : {f : Input} {m : Limit} {a : meant.Limited} → FileLimit f m a → Proper a
limit_proper (FileLimit.no_limit_lem n e) = rw e (omega arith, omega arith)
limit_proper (FileLimit.file_refused s n p h e) = rw e (omega (arith, (file_numbers h).0), file_place h)
limit_proper (FileLimit.chain_refused s h n p z e) = rw e ((refused_places n p z).0, (refused_places n p z).2)
limit_proper (FileLimit.asked s h z x a w v o c e) = rw e tt
