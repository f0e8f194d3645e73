-- Work tables that no caller lends.
use Rattle.std.specs.Prelude.{List, [], ℕ}
use Rattle.meaning.specs.Refusal.{Lent, own_work}
use Rattle.chain.specs.Lent.{lent}
use Rattle.chain.specs.declared.Chain.{Chain}

-- What is lent where the work table is the library's own, and holds zeros.
abbrev pub ours : Chain → List ℕ → List ℕ → List ℕ → List ℕ → Lent
ours c denominators edges order rewards = own_work (lent c denominators edges [] [] []).chain order rewards

-- An entry's outcome, whatever its work table then holds.
pub record Found {A : Type 0} (Outcome : A → List ℕ → Type 0) (a : A) : Type 0 where
  pub work : List ℕ
  pub outcome : Outcome a work
