-- A figure and a line of two, from what the pieces write, and the room that they take.
use Prim.Native.Nat.{ℕ, ◌+◌, ◌-◌, ◌/◌, ◌%◌, ◌^◌, ◌≤◌, ◌<◌}
use mathlib.Core.Path.{◌≡◌, refl, sym, ap, ◌∙◌}
use mathlib.Core.List.{List, [], ◌∷◌, ◌++◌, append_assoc}
use native.Mathlib.Omega.{arith}
use lib.ListN.{length}
use borrow.Author.Tests.{lt-ltb, le-ltb}
use Rattle.meaning.specs.Text.{bytes_of, decimal}
use Rattle.meaning.specs.Report.{named_text}
use Rattle.meaning.specs.Near.{Near}
use Rattle.meaning.specs.NearText.{Figure, lower_figure, upper_figure, last_digits, figure_text, figures_text, near_text}
use Rattle.octets.specs.Written.{Stored}
use Rattle.octets.proofs.Storing.{stored_unique}
use Rattle.text.specs.declared.page.Page.{Page}
use Rattle.text.specs.Page.{Adds, Names}
use Rattle.lines.specs.Widths.{figure_width, figures_width, Fitted, Fits, FiguresLine, Figured, written, full}
use Rattle.lines.proofs.Fitting.{one, name, and, worded}

-- A point and five digits, each from the number divided.
pub five_digits : (x a b c d e : ℕ) → a ≡ 48 + x / 10000 % 10 → b ≡ 48 + x / 1000 % 10 → c ≡ 48 + x / 100 % 10 → d ≡ 48 + x / 10 % 10 → e ≡ 48 + x % 10
    → 46 ∷ a ∷ b ∷ c ∷ d ∷ e ∷ [] ≡ bytes_of "." ++ last_digits 5 x
unfolding last_digits
five_digits x a b c d e h₁ h₂ h₃ h₄ h₅ =
    let i₁ : a ≡ 48 + x / 10 / 10 / 10 / 10 % 10 = omega arith in
    let i₂ : b ≡ 48 + x / 10 / 10 / 10 % 10 = omega arith in
    let i₃ : c ≡ 48 + x / 10 / 10 % 10 = omega arith in
    rw (i₁, i₂, i₃, h₄, h₅) refl

-- The pieces are the figure.
six_pieces : (w a p l t : List ℕ) → w ++ (a ++ p ++ l ++ t) ≡ ((w ++ a) ++ (p ++ l)) ++ t
six_pieces w a p l t = simp append_assoc refl

module _ {a b : Page} {word : List ℕ} (f : Figure) (few : f.digits < 2 ^ 64) (tens : f.tens < 2 ^ 64) where
  pub one_digit : f.digits < 10 → Names a word f.digits b → Fits a (word ++ figure_text f) (length word + figure_width) b
  one_digit h n = worded (rw (lt-ltb f.digits 10 h) refl) (omega arith) (name few n)

  pub six_digits : {d e : Page} {six : List ℕ} {x : ℕ} → 10 ≤ f.digits → six ≡ bytes_of "." ++ last_digits 5 f.digits → x ≡ f.tens - 5
      → Names a word (f.digits / 100000) b → Adds b six d → Names d (bytes_of "e-") x e → Fits a (word ++ figure_text f) (length word + figure_width) e
  unfolding last_digits
  six_digits {six = six} h e t m s n =
      let long : length six ≡ 6 = ap length e in
      let text = six_pieces word (decimal (f.digits / 100000)) (bytes_of ".") (last_digits 5 f.digits) (named_text (bytes_of "e-") (f.tens - 5)) in
      worded (rw (le-ltb f.digits 10 h, e, t) (sym text)) (omega (arith, long)) (and (and (name (omega arith) m) (one s)) (name (omega (arith, t)) n))

-- The pieces are the line.
line_pieces : (w a s b n : List ℕ) → (w ++ a ++ s) ++ b ++ n ≡ ((w ++ a) ++ (s ++ b)) ++ n
line_pieces w a s b n = simp append_assoc refl

pub line_put : (word : List ℕ) (lower upper : Figure) {a b d e : Page} → Fits a (word ++ figure_text lower) (length word + figure_width) b
    → Fits b (bytes_of " " ++ figure_text upper) (1 + figure_width) d → Adds d (bytes_of "\n") e
    → Fits a (figures_text word lower upper) (figures_width word) e
line_put word lower upper v w s =
    worded (sym (line_pieces word (figure_text lower) (bytes_of " ") (figure_text upper) (bytes_of "\n"))) (omega arith) (and (and v w) (one s))

-- Where there is room the line stands; and what is promised of it determines the place and the buffer.
pub figures_written : {l₀ l₁ word : List ℕ} {at r : ℕ} {lower upper : Figure} → at + figures_width word ≤ length l₀ → FiguresLine l₀ at word lower upper l₁ r
    → Fitted l₀ at (figures_text word lower upper) (figures_width word) l₁ r
figures_written room (written h w) = w
figures_written room (full h e q) = absurd (omega arith)

pub figures_line_unique : {l₀ l₁ l₁' word : List ℕ} {at r r' : ℕ} {lower upper : Figure} → FiguresLine l₀ at word lower upper l₁ r
    → FiguresLine l₀ at word lower upper l₁' r' → (l₁ ≡ l₁') × (r ≡ r')
figures_line_unique (written h w) (written h' w') = stored_unique (Stored.written w.written) (Stored.written w'.written)
figures_line_unique (written h w) (full h' e' q') = absurd (omega arith)
figures_line_unique (full h e q) (written h' w') = absurd (omega arith)
figures_line_unique (full h e q) (full h' e' q') = (e ∙ sym e', q ∙ sym q')

-- A line of two figures is a step on a page like any other.
pub figured : {a b : Page} {word : List ℕ} {lower upper : Figure} → Figured a word lower upper b
    → Fits a (figures_text word lower upper) (figures_width word) b
figured v = record { same = v.same; fitted = λ r. figures_written r v.line }

-- Figures of the numbers of two answers make their text.
pub near_same : (chance miss : Near) {a b c d : Figure} → a ≡ lower_figure chance.lower chance.twos → b ≡ upper_figure chance.upper chance.twos
    → c ≡ lower_figure miss.lower miss.twos → d ≡ upper_figure miss.upper miss.twos
    → figures_text (bytes_of "near ") a b ++ figures_text (bytes_of "miss ") c d ≡ near_text chance miss
near_same chance miss e₁ e₂ e₃ e₄ = rw (e₁, e₂, e₃, e₄) refl
