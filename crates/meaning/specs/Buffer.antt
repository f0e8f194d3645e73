-- What is answered where bytes are written into a lent buffer.
use Rattle.std.specs.Prelude.{ℕ}

-- A refusal's number and place, or 0 and how many bytes were written.
pub record Writing : Type 0 where
  pub number : ℕ
  pub place : ℕ
  pub written : ℕ

abbrev pub no_writing : ℕ → ℕ → Writing
no_writing number place = record { number = number; place = place; written = 0 }

abbrev pub writing : ℕ → Writing
writing n = record { number = 0; place = 0; written = n }
