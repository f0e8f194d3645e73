-- Near chances as they are printed: six decimal digits, rounded down for a lower number and up for an upper one; and the two lines.
use Rattle.std.specs.Prelude.{ℕ, zero, suc, ◌+◌, ◌-◌, ◌*◌, ◌/◌, ◌%◌, ◌^◌, Bool, false, List, [], ◌∷◌, ◌++◌, eqb, leb, ltb}
use Rattle.meaning.specs.Number.{choose}
use Rattle.meaning.specs.Text.{bytes_of, decimal}
use Rattle.meaning.specs.Report.{line_text, named_text}
use Rattle.meaning.specs.Near.{Near, digits as binary_digits}

-- A printed figure: digits × 10 ^ -tens. It has six digits, or is 0 or 1 with no tens.
pub record Figure : Type 0 where
  pub digits : ℕ
  pub tens : ℕ

abbrev pub figure : ℕ → ℕ → Figure
figure digits tens = record { digits = digits; tens = tens }

abbrev pub nought : Figure
nought = figure 0 0

abbrev pub one : Figure
one = figure 1 0

-- A number with its highest 60 binary digits alone, and zeros for the others.
abbrev pub highest : ℕ → ℕ
highest x = let k = binary_digits x - 60 in x / 2 ^ k * 2 ^ k

-- p times ten, b times over, each time with the highest 60 binary digits alone.
unfoldable pub grown : ℕ → ℕ → ℕ
grown p zero = p
grown p (suc b) = highest (10 * grown p b)

-- The whole part of p / 2 ^ k after b tens.
abbrev pub whole_part : ℕ → ℕ → ℕ → ℕ
whole_part p k b = grown p b / 2 ^ k

-- The fewest tens with which the whole part has six digits, looked for from b on in at most the given number of steps.
unfoldable pub tens_from : ℕ → ℕ → ℕ → ℕ → ℕ
tens_from zero p k b = b
tens_from (suc steps) p k b = let further = tens_from steps p k (suc b) in choose (ltb (whole_part p k b) 100000) further b

-- The fewest tens in all. Each ten adds at least three binary digits, so k + 17 steps suffice for any p above 0.
unfoldable pub tens_of : ℕ → ℕ → ℕ
tens_of p k = tens_from (k + 17) p k 0

-- Six digits of p / 2 ^ k, rounded down.
abbrev pub six_digits : ℕ → ℕ → Figure
six_digits p k = figure (whole_part p k (tens_of p k)) (tens_of p k)

-- One more in the last place: 999,999 becomes 100,000 with one ten fewer, or 1 where it had six tens, the fewest of a number below 1.
abbrev pub raised : Figure → Figure
raised f =
    choose (ltb f.digits 999999) (figure (f.digits + 1) f.tens) (choose (ltb 6 f.tens) (figure 100000 (f.tens - 1)) one)

-- The largest number and the most twos that get six digits. The engine gives no more; for others the figures are 0 below and 1 above.
abbrev pub most_number : ℕ
most_number = 2 ^ 40

abbrev pub most_twos : ℕ
most_twos = 2500

abbrev pub in_range : ℕ → ℕ → Bool
in_range x k = choose (leb x most_number) (leb k most_twos) false

-- The figure of a lower number p / 2 ^ k, rounded down: 0 and 1 as they are.
abbrev pub lower_figure : ℕ → ℕ → Figure
lower_figure p k =
    choose (eqb p 0) nought (choose (in_range p k) (choose (ltb p (2 ^ k)) (six_digits p k) one) nought)

-- The figure of an upper number q / 2 ^ k, rounded up: one more in the last place than (q + 1) / 2 ^ k has, and 1 where that is 1 or more.
-- The 1 that is added to q outweighs what the highest 60 digits leave out.
abbrev pub upper_figure : ℕ → ℕ → Figure
upper_figure q k =
    choose (eqb q 0) nought (choose (in_range q k) (choose (ltb (q + 1) (2 ^ k)) (raised (six_digits (q + 1) k)) one) one)

-- The last n decimal digits of a number.
unfoldable pub last_digits : ℕ → ℕ → List ℕ
last_digits zero x = []
last_digits (suc n) x = last_digits n (x / 10) ++ ((48 + x % 10) ∷ [])

-- A figure, as `2.48121e-10`: the first digit, a point, the other five, `e-` and the tens less five; 0 and 1 as they are.
abbrev pub figure_text : Figure → List ℕ
figure_text f =
    choose (ltb f.digits 10) (decimal f.digits)
    (decimal (f.digits / 100000) ++ bytes_of "." ++ last_digits 5 f.digits ++ named_text (bytes_of "e-") (f.tens - 5))

-- A line of two figures, as `near 2.48121e-10 2.48122e-10`.
abbrev pub figures_text : List ℕ → Figure → Figure → List ℕ
figures_text word lower upper = line_text (word ++ figure_text lower ++ bytes_of " ") (figure_text upper)

-- The line of an answer; and the two lines, the chance and the chance of missing.
abbrev pub near_line : List ℕ → Near → List ℕ
near_line word a = figures_text word (lower_figure a.lower a.twos) (upper_figure a.upper a.twos)

abbrev pub near_text : Near → Near → List ℕ
near_text chance miss = near_line (bytes_of "near ") chance ++ near_line (bytes_of "miss ") miss

-- Room for any two such lines: besides its first number and its tens, 20 digits each with 64 bits, a figure has eight bytes.
abbrev pub near_room : ℕ
near_room = 206
