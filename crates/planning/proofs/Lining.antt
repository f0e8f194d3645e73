-- The line of a plan, from its pieces.
use Prim.Native.Nat.{ℕ}
use mathlib.Core.Path.{◌≡◌, refl, sym, ap, ap₂, subst, ◌∙◌}
use mathlib.Core.List.{List, [], ◌++◌, append-nil, append_assoc}
use native.Mathlib.Omega.{arith}
use lib.ListN.{take, drop, take-append-drop}
use Rattle.meaning.specs.Text.{bytes_of}
use Rattle.meaning.specs.Report.{named_text}
use Rattle.meaning.specs.Near.{Near}
use Rattle.meaning.specs.NearText.{Figure, figure, lower_figure, upper_figure, figure_text, figures_text}
use Rattle.meaning.specs.Copies.{Plan, Sensible}
use Rattle.meaning.specs.PlanTable.{copies_line}
use Rattle.theory.specs.Plans.Formed.{in_range_lem}
use Rattle.text.specs.declared.page.Page.{Page}
use Rattle.text.specs.Page.{Names}
use Rattle.lines.proofs.Figures.{figures_written}
use Rattle.lines.proofs.Fitting.{name, and, worded}
use Rattle.lines.specs.Widths.{figures_width, Fits, Figured}
use Rattle.egorstream.specs.Near.{Surrounds}
use Rattle.egorstream.specs.declared.nearly.Around.{Around}
use Rattle.egorstream.specs.declared.nearly.Nearness.{Nearness}
use Rattle.planning.specs.Told.{PlanNears}
use Rattle.planning.specs.Line.{chance_of, line_width}
use Rattle.planning.proofs.Asking.{near_one}

pieces : (n s a t b e : List ℕ) → n ++ ((s ++ a ++ t) ++ b ++ e) ≡ ((n ++ s) ++ a ++ t) ++ b ++ e
pieces n s a t b e = simp append_assoc refl

-- The figures that an answer says are those of its near chance.
figures_of : {a : Near} {s : Around} → Surrounds a s → (word : List ℕ)
    → figures_text word (figure s.lower_digits s.lower_tens) (figure s.upper_digits s.upper_tens)
    ≡ figures_text word (lower_figure a.lower a.twos) (upper_figure a.upper a.twos)
figures_of s word = ap₂ (figures_text word) s.below s.above

-- Nothing is written on a page.
pub nothing : {page : Page} → Fits page [] 0 page
nothing {page} =
    let before = page.buffer.now in
    let place = page.at in
    let whole = ap (λ z. z ++ drop place before) (append-nil (take place before)) ∙ take-append-drop place before in
    record {
      same = refl;
      fitted = λ r. record { written = record { past = omega arith; room = omega (arith, r); bytes = sym whole }; past = omega arith };
    }

-- Where there is room, the line of figures takes no more than its width.
figured : {a b : Page} {word : List ℕ} {l u : Figure} → Figured a word l u b → Fits a (figures_text word l u) (figures_width word) b
figured f = record { same = f.same; fitted = λ r. figures_written r f.line }

pub line_told : (j : Plan) → Sensible j → {r : Nearness} → PlanNears j r → {a b d : Page} {word : List ℕ} → Names a word j.copies b
    → Figured b (bytes_of " ") (figure r.near.lower_digits r.near.lower_tens) (figure r.near.upper_digits r.near.upper_tens) d
    → Fits a (copies_line word j.copies (chance_of j)) (line_width word) d
line_told j sensible n {word = word} m f =
    let a = n.chance in
    let text = named_text word j.copies in
    let lower = figure_text (lower_figure a.lower a.twos) in
    let upper = figure_text (upper_figure a.upper a.twos) in
    let is = ap (λ z. text ++ z) (figures_of n.tells.near (bytes_of " ")) ∙ pieces text (bytes_of " ") lower (bytes_of " ") upper (bytes_of "\n")
    ∙ ap (copies_line word j.copies) (near_one sensible n.outcome) in
    worded is (omega arith) (and (name (omega (arith, (in_range_lem sensible).few)) m) (figured f))

-- The line of a plan is that of the weights and the copies that it is made of.
pub line_with : {j j' : Plan} → j ≡ j' → {a b : Page} (word : List ℕ) {width : ℕ} → Fits a (copies_line word j.copies (chance_of j)) width b
    → Fits a (copies_line word j'.copies (chance_of j')) width b
line_with e {a} {b} word {width} = subst (λ (j : Plan). Fits a (copies_line word j.copies (chance_of j)) width b) e
