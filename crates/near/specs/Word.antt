-- A weight with its first 31 binary digits, and the 64-bit word that holds it.
use Rattle.std.specs.Prelude.{ℕ, ◌+◌, ◌*◌, ◌/◌, ◌%◌, ◌^◌}
use Rattle.meaning.specs.Near.{spare}

-- The word of a number: its first 31 digits, and above them how many follow these, which must be below 2 ^ 33 to have room.
unfoldable pub word : ℕ → ℕ
word x = spare x * 2 ^ 31 % 2 ^ 64 + x / 2 ^ spare x

-- The number that a word stands for.
unfoldable pub value : ℕ → ℕ
value w = w % 2 ^ 31 * 2 ^ (w / 2 ^ 31)
