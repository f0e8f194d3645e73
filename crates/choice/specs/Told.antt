-- The numbers for each case of a choice, and what is promised of it.
use Rattle.std.specs.Prelude.{ℕ, List, Result, Ok, Err}
use Rattle.meaning.specs.Refusal.{Lent}
use Rattle.meaning.specs.Choice.{Choice as Numbers, no_choice, choice, ChoiceOutcome}
use Rattle.chain.specs.Refusal.{number_of}
use Rattle.chain.specs.declared.refusal.Refusal.{Refusal}

abbrev pub told : Result ℕ Refusal → Numbers
told (Ok sum) = choice sum
told (Err r) = no_choice (number_of r.fault) r.place

abbrev pub Chooses : Lent → List ℕ → Result ℕ Refusal → List ℕ → Type 0
Chooses l before r after = ChoiceOutcome l before (told r) after
