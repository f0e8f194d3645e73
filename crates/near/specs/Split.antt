-- A number in two parts: its first digits, and how many follow them, 33 too high.
use Rattle.std.specs.Prelude.{ℕ, ◌-◌, ◌*◌, ◌^◌, ◌<◌, ◌≤◌}
use Rattle.near.specs.declared.word.Split.{Split}

-- The parts of a word.
abbrev pub Small : Split → Type 0
Small p = (p.first < 2 ^ 31) × (33 ≤ p.behind) × (p.behind < 2 ^ 34)

-- Those of a product of two words.
abbrev pub Summand : Split → Type 0
Summand p = (p.first < 2 ^ 62) × (33 ≤ p.behind) × (p.behind < 2 ^ 35)

-- The number that the two stand for.
abbrev pub value_of : Split → ℕ
value_of p = p.first * 2 ^ (p.behind - 33)
