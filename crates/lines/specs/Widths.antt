-- The widths of a figure and of a line of two, with numbers of 64 bits, and a text that takes no more than its width.
use Rattle.std.specs.Prelude.{ℕ, ◌+◌, ◌≤◌, ◌<◌, ◌≡◌, List, length}
use Rattle.meaning.specs.NearText.{Figure, figures_text}
use Rattle.octets.specs.Written.{Written}
use Rattle.text.specs.declared.page.Page.{Page}

-- The first number, a point with five digits, `e-` and the tens.
abbrev pub figure_width : ℕ
figure_width = 20 + 6 + (2 + 20)

abbrev pub figures_width : List ℕ → ℕ
figures_width word = length word + figure_width + (1 + figure_width) + 1

-- The text is written from the place on, and the place after it is at most so far on.
pub record Fitted (before : List ℕ) (place : ℕ) (text : List ℕ) (width : ℕ) (after : List ℕ) (next : ℕ) : Type 0 where
  pub written : Written before place text after next
  pub past : next ≤ place + width

-- A step on a page: it is the same buffer; and where there is so much room from the place on, the text is written, and takes no more.
pub record Fits (old : Page) (text : List ℕ) (width : ℕ) (new : Page) : Type 0 where
  pub same : new.buffer.ghost_name ≡ old.buffer.ghost_name
  pub fitted : old.at + width ≤ length old.buffer.now → Fitted old.buffer.now old.at text width new.buffer.now new.at

-- A line of two figures, as a piece of a text: it stands from the place on where there is room for the word and any two figures; else every byte
-- is as it was, and the place too.
pub data FiguresLine (before : List ℕ) (place : ℕ) (word : List ℕ) (lower upper : Figure) (after : List ℕ) (next : ℕ) : Type 0 where
  written : place + figures_width word ≤ length before → Fitted before place (figures_text word lower upper) (figures_width word) after next
      → FiguresLine before place word lower upper after next
  full : length before < place + figures_width word → after ≡ before → next ≡ place → FiguresLine before place word lower upper after next

-- So it is on a page, which has the same buffer.
pub record Figured (old : Page) (word : List ℕ) (lower upper : Figure) (new : Page) : Type 0 where
  pub same : new.buffer.ghost_name ≡ old.buffer.ghost_name
  pub line : FiguresLine old.buffer.now old.at word lower upper new.buffer.now new.at
