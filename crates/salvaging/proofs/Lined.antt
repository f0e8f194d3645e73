-- The lines of what is left, from what the pieces write.
use Prim.Native.Nat.{ℕ, ◌+◌, ◌≤◌}
use mathlib.Core.Path.{◌≡◌, refl, sym, ap, subst, ◌∙◌}
use mathlib.Core.List.{List, [], ◌++◌, append-nil}
use native.Mathlib.Omega.{arith}
use native.Mathlib.Numerals.{add-one}
use lib.ListN.{length, get_or, take, drop, length-append, take-append-drop}
use borrow.Author.Tests.{le-ltb, lt-ltb}
use Rattle.meaning.specs.Number.{join_to}
use Rattle.meaning.specs.Outcome.{Bounds}
use Rattle.meaning.specs.Text.{bytes_of}
use Rattle.meaning.specs.Salvage.{pair_text, salvage_room}
use Rattle.octets.specs.Written.{Room}
use Rattle.text.specs.declared.page.Page.{Page}
use Rattle.text.specs.Page.{Prints}
use Rattle.text.proofs.Paging.{and}
use Rattle.salvaging.specs.Lines.{bounds_line, number_text, numbers_text, left_text, Fits}

-- Nothing is written on a page.
nothing : {page : Page} → Prints page [] page
nothing {page} =
    let before = page.buffer.now in
    let place = page.at in
    record {
      same = refl;
      written = λ h.
          record {
            past = omega arith;
            room = omega arith;
            bytes = sym (ap (λ (l : List ℕ). l ++ drop place before) (append-nil (take place before)) ∙ take-append-drop place before);
          };
    }

-- The line of a number, and nothing for 0.
module _ {old : Page} (word : List ℕ) (n x : ℕ) where
  pub no_line : x ≡ 0 → Prints old (number_text word n x) old
  no_line z = rw (le-ltb 0 x (omega arith)) nothing

  pub some_line : {new : Page} → (x ≡ 0 → ⊥) → Prints old (pair_text word n x) new → Prints old (number_text word n x) new
  some_line some l = rw (lt-ltb 0 x (omega arith)) l

-- The lines of the first i numbers, and one more.
module _ {old : Page} (word numbers : List ℕ) where
  pub none_lined : Prints old (numbers_text word numbers 0) old
  unfolding join_to
  none_lined = nothing

  pub more_lined : (i : ℕ) {now later : Page} → Prints old (numbers_text word numbers i) now → Prints now (number_text word i (get_or numbers i 0)) later
      → Prints old (numbers_text word numbers (i + 1)) later
  unfolding join_to
  more_lined i {later = later} l w = subst (λ k. Prints old (numbers_text word numbers k) later) (sym (add-one i)) (and l w)

pub left_room : {a : Bounds} {lost short : List ℕ} (buffer : List ℕ) → Fits a lost short → salvage_room ≤ length buffer → Room buffer 0 (left_text a lost short)
left_room {a} {lost} {short} buffer fits long =
    let blocks = numbers_text (bytes_of "lost ") lost (length lost) in
    let rows = numbers_text (bytes_of "short ") short (length short) in
    omega (
      arith,
      length-append (bounds_line a ++ blocks) rows,
      length-append (bounds_line a) blocks,
      fits.bounds,
      fits.blocks (length lost),
      fits.rows (length short),
    )
