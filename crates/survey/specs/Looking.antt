-- What the looking of an entry says.
use Rattle.std.specs.Prelude.{ℕ, Bool, true, false, Option, Some, None, Result, Ok, Err}
use Rattle.meaning.specs.Refusal.{Lent, Entry, Refused, WellFormed}
use Rattle.look.specs.Says.{Upto}
use Rattle.survey.specs.Sets.{Known}
use Rattle.chain.specs.declared.refusal.Refusal.{Refusal}
use Rattle.chain.specs.Refusal.{number_of}
use Rattle.survey.specs.declared.Sets.{Sets}

-- Whether a table is lent, and how long it is: 0 where it is not.
abbrev pub asked : Option ℕ → Bool
asked None = false
asked (Some k) = true

abbrev pub size_of : Option ℕ → ℕ
size_of None = 0
size_of (Some k) = k

-- What a looking answers: the chain's sets where no number applies.
abbrev pub Looked : Type 0
Looked = Result Sets Refusal

-- What is said before the numbers from k on are looked at; the sets are the chain's own.
abbrev pub so_far : Entry → Lent → ℕ → Looked → Type 0
so_far x l k (Ok sets) = Upto x l k × Known x.short l.chain sets
so_far x l k (Err r) = Refused x l (number_of r.fault) r.place

abbrev pub looked : Entry → Lent → Looked → Type 0
looked x l (Ok sets) = WellFormed x l × Known x.short l.chain sets
looked x l (Err r) = Refused x l (number_of r.fault) r.place
