-- A limit for a chance, and the word that says one.
use Rattle.std.specs.Prelude.{ℕ, ◌+◌, ◌*◌, ◌-◌, ◌^◌, ◌≤◌, ◌<◌, ◌≡◌, ◌⊎◌, Bool, List, length, get_or, leb}
use Rattle.meaning.specs.Text.{bytes_of, read_on, IsDigit}

-- A limit: digits × 10 ^ -tens.
pub record Limit : Type 0 where
  pub digits : ℕ
  pub tens : ℕ

abbrev pub limit : ℕ → ℕ → Limit
limit digits tens = record { digits = digits; tens = tens }

-- What stands for no limit.
abbrev pub no_limit : Limit
no_limit = limit 0 0

-- The largest number that its digits say, and the most tens.
abbrev pub most_said : ℕ
most_said = 9999999

abbrev pub most_tens : ℕ
most_tens = 700

-- It is above 0 and at most 1.
pub record IsLimit (m : Limit) : Type 0 where
  pub some : 0 < m.digits
  pub few : m.digits ≤ most_said
  pub tens : m.tens ≤ most_tens
  pub most : m.digits ≤ 10 ^ m.tens

-- p over q is at most the limit.
abbrev pub keeps : Limit → ℕ → ℕ → Bool
keeps m p q = leb (p * 10 ^ m.tens) (m.digits * q)

-- The most bytes of a limit's word.
abbrev pub longest_word : ℕ
longest_word = 40

-- The bytes of a word from one place on and before another are digits, one or more.
pub record DigitsIn (word : List ℕ) (begin end : ℕ) : Type 0 where
  pub some : begin < end
  pub inside : end ≤ length word
  pub each : (i : ℕ) → begin ≤ i → i < end → IsDigit (get_or word i 0)

-- The byte of a word at a place is the text's first.
abbrev pub Stands : List ℕ → ℕ → List ℕ → Type 0
Stands word place text = get_or word place 0 ≡ get_or text 0 0

-- From the place `mark` on stand `e-` and one to three digits.
abbrev pub Marked : List ℕ → ℕ → Type 0
Marked word mark =
    Stands word mark (bytes_of "e") × (Stands word (mark + 1) (bytes_of "-") × (DigitsIn word (mark + 2) (length word) × (length word ≤ mark + 5)))

-- Digits before the place `point`; perhaps a point there, and digits before the place `mark`; perhaps `e-` there, and digits to the end.
pub record Spelled (word : List ℕ) (point mark : ℕ) : Type 0 where
  pub short : length word ≤ longest_word
  pub whole : DigitsIn word 0 point
  pub middle : (mark ≡ point) ⊎ (Stands word point (bytes_of ".") × DigitsIn word (point + 1) mark)
  pub ending : (length word ≡ mark) ⊎ Marked word mark

-- How many digits stand after the point.
abbrev pub after_point : ℕ → ℕ → ℕ
after_point point mark = mark - (point + 1)

-- What such a word says: the number that all digits before `e` say; and as many tens as digits stand after the point, and as `e-` says.
abbrev pub spelled_limit : List ℕ → ℕ → ℕ → Limit
spelled_limit word point mark =
    limit
    (read_on word (point + 1) (read_on word 0 0 point) (after_point point mark))
    (after_point point mark + read_on word (mark + 2) 0 (length word - (mark + 2)))

-- The word says the limit m.
pub record Says (word : List ℕ) (m : Limit) : Type 0 where
  pub point : ℕ
  pub mark : ℕ
  pub spelled : Spelled word point mark
  pub is : m ≡ spelled_limit word point mark
  pub sound : IsLimit m

-- What a word is read as.
pub data LimitWord (word : List ℕ) (m : Limit) : Type 0 where
  said : Says word m → LimitWord word m
  nothing : ((m' : Limit) → Says word m' → ⊥) → m ≡ no_limit → LimitWord word m
