-- What is promised determines the near chances, the table and the lines of the fewest copies.
use Prim.Native.Nat.{ℕ}
use mathlib.Core.Path.{◌≡◌}
use mathlib.Core.List.{List}
use Rattle.meaning.specs.Copies.{Plan}
use Rattle.meaning.specs.Limit.{Limit}
use Rattle.meaning.specs.PlanTable.{Weights, PlanTableOutcome}
use Rattle.meaning.specs.Fewest.{FewestOutcome}
use Rattle.theory.specs.Plans.Told.{plan_near_one, plan_table_one, fewest_report_one}
use Rattle.report.specs.Stands.{told}
use Rattle.std.proofs.Common.{Result}
use Rattle.chain.specs.declared.refusal.Refusal.{Refusal}
use Rattle.report.proofs.Unique.{unique}
use Rattle.egorstream.proofs.Nearing.{tells_one}
use Rattle.egorstream.specs.declared.nearly.Nearness.{Nearness}
use Rattle.planning.specs.Told.{PlanNears}

pub near_unique : {j : Plan} (r r' : Nearness) → PlanNears j r → PlanNears j r' → r ≡ r'
near_unique r r' x y = let e = plan_near_one x.outcome y.outcome in tells_one r r' e.0 e.1 x.tells y.tells

pub table_unique : {x : Weights} {before after after' : List ℕ} (r r' : Result ℕ Refusal) → PlanTableOutcome x before (told r) after
    → PlanTableOutcome x before (told r') after' → (r ≡ r') × (after ≡ after')
table_unique = unique (λ t t'. plan_table_one)

pub fewest_unique : {x : Weights} {m : Limit} {before after after' : List ℕ} (r r' : Result ℕ Refusal) → FewestOutcome x m before (told r) after
    → FewestOutcome x m before (told r') after' → (r ≡ r') × (after ≡ after')
fewest_unique = unique (λ t t'. fewest_report_one)
