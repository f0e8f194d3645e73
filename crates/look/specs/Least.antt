-- What a scan answers: the least place at which something holds, or that it holds nowhere.
use Rattle.std.specs.Prelude.{ℕ, ◌<◌, Option, Some, None, min}

pub record Least (P : ℕ → Type 0) (p : ℕ) : Type 0 where
  pub here : P p
  pub before : (q : ℕ) → q < p → P q → ⊥

abbrev pub least : (ℕ → Type 0) → Option ℕ → Type 0
least P None = (q : ℕ) → P q → ⊥
least P (Some p) = Least P p

-- The lesser of two places.
abbrev pub lesser : Option ℕ → Option ℕ → Option ℕ
lesser None b = b
lesser (Some p) None = Some p
lesser (Some p) (Some q) = Some (min p q)
