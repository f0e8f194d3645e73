-- What the writer's answers tell.
use Rattle.std.specs.Prelude.{ℕ, Result, Ok, Err}
use Rattle.meaning.specs.Buffer.{Writing as Numbers, writing, no_writing}
use Rattle.chain.specs.Refusal.{number_of}
use Rattle.chain.specs.declared.refusal.Refusal.{Refusal}

-- How many bytes are written, or by what it is refused.
abbrev pub Writing : Type 0
Writing = Result ℕ Refusal

abbrev pub told : Writing → Numbers
told (Ok n) = writing n
told (Err r) = no_writing (number_of r.fault) r.place
