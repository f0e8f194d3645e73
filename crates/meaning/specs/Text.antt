-- Text as bytes: ASCII characters and decimal numbers, written and read.
use Rattle.std.specs.Prelude.{ℕ, zero, suc, ◌+◌, ◌*◌, ◌-◌, ◌/◌, ◌%◌, ◌^◌, ◌≤◌, ◌<◌, ◌≡◌, List, [], ◌∷◌, ◌++◌, length, get_or, ltb}
use Prim.Native.String.{String, [] as none, ◌∷◌ as ◌then◌}
use Prim.Native.Char.{code}
use Rattle.meaning.specs.Number.{choose}

-- The bytes of a text of ASCII characters.
abbrev pub bytes_of : String → List ℕ
bytes_of none = []
bytes_of (c then s) = code c ∷ bytes_of s

-- The decimal digits of x, looked for in at most the given number of steps.
unfoldable pub decimal_in : ℕ → ℕ → List ℕ
decimal_in zero x = (48 + x % 10) ∷ []
decimal_in (suc steps) x =
    let further = decimal_in steps (x / 10) in choose (ltb x 10) ((48 + x) ∷ []) (further ++ ((48 + x % 10) ∷ []))

-- x in decimal, with no zero in front: it has at most x + 1 digits.
unfoldable pub decimal : ℕ → List ℕ
decimal x = decimal_in x x

-- What x becomes when the n digits of a word from a place on are read behind its own.
unfoldable pub read_on : List ℕ → ℕ → ℕ → ℕ → ℕ
read_on word place x zero = x
read_on word place x (suc n) = read_on word place x n * 10 + (get_or word (place + n) 0 - 48)

-- The number that the first n digits of a word say.
abbrev pub value_to : List ℕ → ℕ → ℕ
value_to word n = read_on word 0 0 n

-- The most digits of a word, and the number that no word reaches: the numbers of 64 bits.
abbrev pub most_digits : ℕ
most_digits = 20

abbrev pub past_numbers : ℕ
past_numbers = 2 ^ 64

-- A byte that is a decimal digit.
abbrev pub IsDigit : ℕ → Type 0
IsDigit byte = (48 ≤ byte) × (byte ≤ 57)

-- A word is a decimal number of 64 bits.
pub record Decimal (word : List ℕ) : Type 0 where
  pub some : 0 < length word
  pub few : length word ≤ most_digits
  pub digits : (i : ℕ) → i < length word → IsDigit (get_or word i 0)
  pub fits : value_to word (length word) < past_numbers

-- What a word is read as: its number, or what is given for a word that has none.
pub data WordOutcome (otherwise : ℕ) (word : List ℕ) (x : ℕ) : Type 0 where
  number : Decimal word → x ≡ value_to word (length word) → WordOutcome otherwise word x
  nothing : (Decimal word → ⊥) → x ≡ otherwise → WordOutcome otherwise word x
