-- A text in a lent buffer.
use Rattle.std.specs.Prelude.{ℕ, ◌≡◌, List, ◌++◌, length, Result, Ok, Err}
use Rattle.meaning.specs.Number.{filled}
use Rattle.meaning.specs.Text.{bytes_of}
use Rattle.meaning.specs.Report.{refused_text}
use Rattle.meaning.specs.Buffer.{Writing, writing, no_writing}
use Rattle.chain.specs.Refusal.{number_of}
use Rattle.chain.specs.declared.refusal.Refusal.{Refusal}

-- A text of the wanted kind stands at the front of the buffer, and its length is answered.
pub record Stands (Text : List ℕ → Type 0) (before : List ℕ) (returned : ℕ) (after : List ℕ) : Type 0 where
  pub text : List ℕ
  pub wanted : Text text
  pub whole : returned ≡ length text
  pub bytes : after ≡ filled text before

-- So it does; or nothing is written, and the line of a refusal is of the wanted kind.
abbrev pub Writes : (List ℕ → Type 0) → List ℕ → Result ℕ Refusal → List ℕ → Type 0
Writes Text before (Ok n) after = Stands Text before n after
Writes Text before (Err r) after = Text (refused_text (number_of r.fault) r.place ++ bytes_of "\n") × (after ≡ before)

-- The numbers of each case.
abbrev pub told : Result ℕ Refusal → Writing
told (Ok n) = writing n
told (Err r) = no_writing (number_of r.fault) r.place
