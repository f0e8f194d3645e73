-- What a step of writing on a page does: it is the same buffer afterwards, and what stands in it is told as of a buffer and a place.
use Rattle.std.specs.Prelude.{ℕ, List, ◌≡◌}
use Rattle.octets.specs.Written.{Room, Written, Stored}
use Rattle.text.specs.declared.page.Page.{Page}
use Rattle.text.specs.Pieces.{Named}

-- Where there is room for the text, it is written.
pub record Prints (old : Page) (text : List ℕ) (new : Page) : Type 0 where
  pub same : new.buffer.ghost_name ≡ old.buffer.ghost_name
  pub written : Room old.buffer.now old.at text → Written old.buffer.now old.at text new.buffer.now new.at

-- The text is written, or there is no room for it: then every byte is as it was, and the place too.
pub record Adds (old : Page) (text : List ℕ) (new : Page) : Type 0 where
  pub same : new.buffer.ghost_name ≡ old.buffer.ghost_name
  pub stored : Stored old.buffer.now old.at text new.buffer.now new.at

-- So it is of a number after its name.
pub record Names (old : Page) (name : List ℕ) (x : ℕ) (new : Page) : Type 0 where
  pub same : new.buffer.ghost_name ≡ old.buffer.ghost_name
  pub named : Named old.buffer.now old.at name x new.buffer.now new.at
