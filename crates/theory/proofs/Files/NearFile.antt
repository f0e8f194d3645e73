-- What is answered of a chain file by near chances, and what the program prints of it, is one; a refusal's place is small.
use Rattle.std.specs.Prelude.{ℕ, ◌+◌, ◌≤◌, ◌≡◌, List}
use Rattle.std.proofs.Common.{sym, ap₂, ◌∙◌, arith}
use Rattle.meaning.specs.Chain.{most_states, most_edges}
use Rattle.meaning.specs.Refusal.{Lent, plain, WellFormed}
use Rattle.meaning.specs.File.{Accepted}
use Rattle.meaning.specs.Block.{Input}
use Rattle.meaning.specs.Outcome.{refused, stopped, answered}
use Rattle.meaning.specs.Near.{Near, near, NearFigure, NearOutcome}
use Rattle.meaning.specs.FileNear.{From, chain_from, lent_from, FileNear, near_lines, NearReport}
use Rattle.theory.specs.Outcomes.Places.{refused_places}
use Rattle.theory.proofs.Outcomes.NearShown.{NearShown, MissShown, NearPrinted, near_shown, miss_shown, near_printed, miss_printed}
use Rattle.theory.specs.Outcomes.NearOne.{near_determined}
use Rattle.theory.specs.Outcomes.MissOne.{miss_determined}
use Rattle.theory.specs.Files.FileOne.{file_one, accepted_unrefused}
use Rattle.theory.specs.Files.StepsOne.{file_place}

pub file_near_one : {f : Input} {from : From} {a a' b b' : Near} → FileNear f from a b → FileNear f from a' b' → (a ≡ a') × (b ≡ b')
file_near_one (FileNear.file_refused n p r e d) (FileNear.file_refused n' p' r' e' d') =
    let o = file_one r r' in
    let q = ap₂ (λ (n p : ℕ). near n p 0 0 0) o.0 o.1 in
    (e ∙ q ∙ sym e', d ∙ q ∙ sym d')
file_near_one (FileNear.file_refused n p r e d) (FileNear.asked h' w' v' o' m') = absurd (accepted_unrefused h' r)
file_near_one (FileNear.asked h w v o m) (FileNear.file_refused n' p' r' e' d') = absurd (accepted_unrefused h r')
file_near_one (FileNear.asked h w v o m) (FileNear.asked h' w' v' o' m') = ((near_determined _ o o').0, (miss_determined _ m m').0)

-- What the program prints is one text.
pub near_report_one : {f : Input} {from : From} {t t' : List ℕ} → NearReport f from t → NearReport f from t' → t ≡ t'
near_report_one r r' =
    let o = file_near_one r.outcome r'.outcome in
    r.lines ∙ ap₂ near_lines o.0 o.1 ∙ sym r'.lines

-- A refusal's place has room in the 32 bits of C.
figure_place : {l : Lent} {a : Near} → NearFigure l a → a.place ≤ most_states + most_edges
figure_place (NearFigure.won g e) = rw e (omega arith)
figure_place (NearFigure.lost g e) = rw e (omega arith)
figure_place (NearFigure.live k r v e) = rw e (omega arith)

near_place : {l : Lent} {a : Near} {w : List ℕ} → NearOutcome l a w → a.place ≤ most_states + most_edges
near_place (refused n p r e s) = rw e (refused_places n p r).2
near_place (stopped n p f t e s) = absurd t
near_place (answered f t g s) = figure_place g

pub file_near_place : {f : Input} {from : From} {a b : Near} → FileNear f from a b → a.place ≤ most_states + most_edges
file_near_place (FileNear.file_refused n p r e d) = rw e (file_place r)
file_near_place (FileNear.asked h w v o m) = near_place o

-- What is printed of an accepted file, whose chain with that start is well formed: the chance, and 1 less the chance, lie between the figures of
-- their lines, and these are close to the numbers that they are rounded from.
pub file_near_shown : {f : Input} {from : From} {a b : Near} → FileNear f from a b → Accepted f → WellFormed plain (lent_from f from)
    → (NearShown (chain_from f from) a × MissShown (chain_from f from) b) × (NearPrinted a × NearPrinted b)
file_near_shown (FileNear.file_refused n p r e d) h formed = absurd (accepted_unrefused h r)
file_near_shown (FileNear.asked h' w v o m) h formed =
    ((near_shown _ formed o, miss_shown _ formed m), (near_printed _ formed o, miss_printed _ formed m))
