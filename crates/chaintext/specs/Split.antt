-- The lines of a text, one after the other.
use Rattle.std.specs.Prelude.{ℕ, ◌-◌, ◌≤◌, ◌<◌, ◌≡◌, List, length, get_or, take, drop}
use Rattle.meaning.specs.ChainText.{newline, OneLine}

-- A line that begins at a place ends there, at its newline or at the end of the text.
pub record LineEnd (text : List ℕ) (place end : ℕ) : Type 0 where
  pub from_place : place ≤ end
  pub inside : end ≤ length text
  pub line : OneLine (take (end - place) (drop place text))
  pub stops : end < length text → get_or text end 0 ≡ newline
