-- The texts of what is answered of a file, and which refusals end the report.
use Rattle.std.specs.Prelude.{ℕ, ◌≤◌, List, ◌++◌, Result, Ok, Err}
use Rattle.meaning.specs.Text.{bytes_of, decimal}
use Rattle.meaning.specs.Report.{line_text, lines_text}
use Rattle.chain.specs.Refusal.{number_of}
use Rattle.chain.specs.declared.refusal.Refusal.{Refusal}
use Rattle.engines.specs.Answer.{told_chance, told_reward, told_bounds}
use Rattle.engines.specs.declared.answer.Bounds.{Bounds}
use Rattle.figures.specs.declared.answer.Counts.{Counts}
use Rattle.figures.specs.declared.answer.Report.{Report}

-- The first four lines.
abbrev pub counts_text : Counts → List ℕ
counts_text c =
    line_text (bytes_of "states ") (decimal c.states)
    ++ line_text (bytes_of "edges ") (decimal c.edges)
    ++ line_text (bytes_of "goals ") (decimal c.goals)
    ++ line_text (bytes_of "live ") (decimal c.live)

-- The seven lines.
abbrev pub told_lines : Report → Bounds → List ℕ
told_lines r bounds =
    let c = r.counts in
    lines_text c.states c.edges c.goals c.live (told_chance r.chance) (told_reward r.reward) (told_bounds (Ok bounds))

-- The numbers that end the report with a single line.
pub data Ends (number : ℕ) : Type 0 where
  chain : 1 ≤ number → number ≤ 11 → Ends number
  file : 20 ≤ number → number ≤ 24 → Ends number

-- An answer that leaves the report its lines.
abbrev pub Lasts : {A : Type 0} → Result A Refusal → Type 0
Lasts (Ok a) = Unit {0}
Lasts (Err r) = Ends (number_of r.fault) → ⊥

-- How long the line of a record is at its longest, with numbers of 64 bits.
abbrev pub record_room : ℕ
record_room = 111
