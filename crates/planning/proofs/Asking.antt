-- What is asked of a plan's file is the plan's.
use Prim.Native.Nat.{ℕ, ◌<◌}
use mathlib.Core.Path.{◌≡◌, refl, subst}
use mathlib.Core.List.{List}
use lib.ListN.{take}
use Rattle.meaning.specs.Block.{whole_file}
use Rattle.meaning.specs.Buffer.{Writing}
use Rattle.meaning.specs.Copies.{Plan, Sensible, copies_lent, PlanRefused}
use Rattle.meaning.specs.Near.{Near, near}
use Rattle.meaning.specs.FileNear.{own}
use Rattle.meaning.specs.PlanTable.{PlanNear, Weights, with_copies}
use Rattle.theory.specs.Outcomes.NearOne.{near_determined, near_outcome}
use Rattle.theory.specs.Plans.Copies.{refused_senseless}
use Rattle.theory.specs.Plans.Judged.{plan_near}
use Rattle.copies.proofs.Filing.{Made, made_sensible, made_file, made_refused}
use Rattle.egorstream.specs.Near.{Tells, Nears}
use Rattle.egorstream.specs.declared.nearly.Nearness.{Nearness}
use Rattle.planning.specs.Told.{PlanNears, Weighed}
use Rattle.planning.specs.Line.{chance_of}

module _ {j : Plan} {a : Writing} {after : List ℕ} (m : Made j a after) {r : Nearness} where
  pub near_refused : 0 < a.number → Tells (near a.number a.place 0 0 0) (near a.number a.place 0 0 0) r → PlanNears j r
  near_refused some t =
      record {
        chance = near a.number a.place 0 0 0;
        missing = near a.number a.place 0 0 0;
        outcome = PlanNear.refused a.number a.place (made_refused m some) refl refl;
        tells = t;
      }

  pub near_asked : a.number ≡ 0 → Nears (whole_file (take a.written after)) own r → PlanNears j r
  near_asked none n =
      record {
        chance = n.chance;
        missing = n.missing;
        outcome = plan_near (made_sensible m none) (made_file m none) n.outcome;
        tells = n.tells;
      }

pub weighed_made : (x : Weights) {j : Plan} {a : Writing} {after : List ℕ} → j ≡ with_copies x 1 → Made j a after → Weighed x a.number a.place
weighed_made x {a = a} e m =
    record {
      serve = λ z. subst Sensible e (made_sensible m z);
      wrong = λ h. subst (λ j. PlanRefused j a.number a.place) e (made_refused m h);
    }

-- The file of a sensible plan is made.
pub made_none : {j : Plan} {a : Writing} {after : List ℕ} → Sensible j → Made j a after → a.number ≡ 0
made_none s (Made.not r) = absurd (refused_senseless r s)
made_none s (Made.made _ e f h) = e

-- A sensible plan has one near chance.
pub near_one : {j : Plan} {chance miss : Near} → Sensible j → PlanNear j chance miss → chance ≡ chance_of j
near_one s (PlanNear.refused n p f e d) = absurd (refused_senseless f s)
near_one {j} s (PlanNear.asked _ w v o m) = (near_determined (copies_lent j) o (near_outcome (copies_lent j)).outcome).0
