use Rattle.std.proofs.Common.{ℕ, ◌≡◌, ◌<◌, ◌≤◌, Bool, true, false, List, length, MatchBool, ⊎_elim, rules, tests, arith}
use lib.ListN.{get_or-eq_default}
use Rattle.std.specs.List.{HoldsAt, AllWithin}
use Rattle.std.proofs.lemmas.Iterator.{cases_from_any, YieldsList-from_slice}
use Rattle.meaning.specs.Number.{decides}
use Rattle.meaning.specs.Salvage.{Lost, verdict}
use Rattle.theory.specs.Numbers.Sum.{below}
use Rattle.salvaging.proofs.damaged.Goals as goal

-- A number that is not 0 is a block that is lost, and past the list there is none.
decided : (lost : List ℕ) (r : Bool)
    → MatchBool r ((b : ℕ) × (b < length lost) × HoldsAt (λ x. x ≡ 0 → ⊥) lost b) (AllWithin (λ x. x ≡ 0) lost 0 (length lost))
    → decides (Lost (verdict lost)) r
decided lost true h = (h.0, h.2 0)
decided lost false h = λ w.
    ⊎_elim (λ (l : w.0 < length lost). w.1 (h w.0 0 (omega arith) (omega arith))) (λ (l : length lost ≤ w.0). w.1 (get_or-eq_default lost 0 {n = w.0} l))
    (below w.0 (length lost))

pub returns : goal.returns
returns c =
    let lost = c.args.lost.now in
    decided lost c.any.result
    (cases_from_any _ _ _ (λ x. x ≡ 0 → ⊥) (λ x. x ≡ 0) c.any.ensures.ran (YieldsList-from_slice lost cc) (λ x q k. search (rules, tests))
    (λ x q k. search (rules, tests)))
