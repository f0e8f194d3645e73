-- What is answered within so many steps, in the numbers of `meaning`.
use Rattle.std.specs.Prelude.{ℕ, Result, Ok, Err}
use Rattle.meaning.specs.Refusal.{Lent}
use Rattle.meaning.specs.Within.{Within, no_within, within, WithinOutcome}
use Rattle.chain.specs.Refusal.{number_of}
use Rattle.chain.specs.declared.refusal.Refusal.{Refusal}

-- Document 01's numbers for each case.
abbrev pub told : Result ℕ Refusal → Within
told (Ok parts) = within parts
told (Err r) = no_within (number_of r.fault) r.place

abbrev pub Withins : Lent → ℕ → Result ℕ Refusal → Type 0
Withins l k r = WithinOutcome l k (told r)
