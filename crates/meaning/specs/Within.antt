-- Within so many retries (request 13): the chance of having reached a goal within k steps, as a whole number over 1,073,741,824.
use Rattle.std.specs.Prelude.{ℕ, zero, suc, ◌*◌, ◌/◌, ◌^◌, ◌≤◌, ◌<◌, ◌≡◌, List, ◌++◌, eqb}
use Rattle.meaning.specs.Number.{only, choose, bit}
use Rattle.meaning.specs.Chain.{Chain, denominator, along}
use Rattle.meaning.specs.Refusal.{Lent, bare, Refused, WellFormed}
use Rattle.meaning.specs.Block.{Input}
use Rattle.meaning.specs.File.{FileRefused, Accepted, bare_in}
use Rattle.meaning.specs.Buffer.{Writing}
use Rattle.meaning.specs.Text.{bytes_of, decimal}
use Rattle.meaning.specs.Report.{refused_text, line_text, named_text, TextOutcome}

-- The most steps, and the number that the answer is over.
abbrev pub most_steps : ℕ
most_steps = 1000

abbrev pub all_parts : ℕ
all_parts = 1073741824

-- What state i holds after k rounds. Goals hold all parts and the others begin at 0; in each round each of the others gets the sum of weight
-- times value of the round before over its denominator, rounded down.
unfoldable pub held : Chain → ℕ → ℕ → ℕ
held c zero i = only (eqb (bit c.goals i) 1) all_parts
held c (suc k) i = choose (eqb (bit c.goals i) 1) all_parts (along c i (held c k) / denominator c i)

-- The product of f 0, f 1, .., f (n - 1).
unfoldable pub product_to : (ℕ → ℕ) → ℕ → ℕ
product_to f zero = 1
product_to f (suc n) = product_to f n * f n

-- The product of all denominators.
abbrev pub common : Chain → ℕ
common c = product_to (denominator c) c.states

-- The true chance within k steps, from the same rounds with goals at 1 and nothing rounded down: this number over the k-th power of the product
-- of all denominators. A denominator divides that product, so that the division here leaves nothing.
unfoldable pub reached_in : Chain → ℕ → ℕ → ℕ
reached_in c zero i = only (eqb (bit c.goals i) 1) 1
reached_in c (suc k) i =
    choose (eqb (bit c.goals i) 1) (common c ^ suc k) (along c i (reached_in c k) * (common c / denominator c i))

-- What is answered: a refusal's number and place, or 0 and the parts.
pub record Within : Type 0 where
  pub number : ℕ
  pub place : ℕ
  pub parts : ℕ

abbrev pub no_within : ℕ → ℕ → Within
no_within number place = record { number = number; place = place; parts = 0 }

abbrev pub within : ℕ → Within
within parts = record { number = 0; place = 0; parts = parts }

-- What the start holds after k rounds. 32, for k, comes before 1; then 1 and 3 to 9.
pub data WithinOutcome (l : Lent) (k : ℕ) (a : Within) : Type 0 where
  many_steps : most_steps < k → a ≡ no_within 32 0 → WithinOutcome l k a
  refused : k ≤ most_steps → (number place : ℕ) → Refused bare l number place → a ≡ no_within number place → WithinOutcome l k a
  answered : k ≤ most_steps → WellFormed bare l → a ≡ within (held l.chain k l.chain.start) → WithinOutcome l k a

-- The same of a chain file: k is tested first, then the file, then its chain.
pub data FileWithin (f : Input) (k : ℕ) (a : Within) : Type 0 where
  many_steps : most_steps < k → a ≡ no_within 32 0 → FileWithin f k a
  file_refused : k ≤ most_steps → (number place : ℕ) → FileRefused f number place → a ≡ no_within number place → FileWithin f k a
  asked : Accepted f → WithinOutcome (bare_in f) k a → FileWithin f k a

-- The line of an answer, as `within 3 1033476505 of 1073741824`, or `refused 32 at 0`.
abbrev pub within_text : ℕ → ℕ → List ℕ
within_text k parts = named_text (bytes_of "within ") k ++ named_text (bytes_of " ") parts ++ line_text (bytes_of " of ") (decimal all_parts)

abbrev pub within_line : ℕ → Within → List ℕ
within_line k a = choose (eqb a.number 0) (within_text k a.parts) (refused_text a.number a.place ++ bytes_of "\n")

-- t is what the program prints for the input f and k.
pub record WithinReport (f : Input) (k : ℕ) (t : List ℕ) : Type 0 where
  pub answer : Within
  pub outcome : FileWithin f k answer
  pub line : t ≡ within_line k answer

-- Room for any such line, with numbers of 64 bits, which have 20 digits.
abbrev pub within_room : ℕ
within_room = 73

abbrev pub WithinReportOutcome : Input → ℕ → List ℕ → Writing → List ℕ → Type 0
WithinReportOutcome f k = TextOutcome within_room (WithinReport f k)
