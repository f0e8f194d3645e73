-- What is left of a chain where edges are lost (request 10): its rows may fall short, and each row's missing weight goes to Unknown.
use Rattle.std.specs.Prelude.{ℕ, true, false, List}
use Rattle.meaning.specs.Refusal.{Lent, Entry, eliminating}
use Rattle.meaning.specs.Outcome.{Bounds, BoundsOutcomeOf}

-- The entry for the bounds of what is left: 1 to 8 and 10 as for the bounds, 9 only where a row exceeds its denominator.
abbrev pub short_rows : Entry
short_rows = eliminating false false true

abbrev pub LeftOutcome : Lent → Bounds → List ℕ → Type 0
LeftOutcome = BoundsOutcomeOf short_rows
