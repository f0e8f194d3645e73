-- What the check of a table asks, finds and says.
use Rattle.std.specs.Prelude.{ℕ, ◌*◌, ◌^◌, ◌≤◌, ◌<◌, ◌≡◌, ◌↔◌, Bool, true, false, List, Result, Ok, Err, eqb, get_or}
use Rattle.meaning.specs.Number.{bit}
use Rattle.meaning.specs.Chain.{most_states, ToGoal}
use Rattle.meaning.specs.Refusal.{Lent}
use Rattle.meaning.specs.Judge.{Verdict as Said, right, wrong, refusal, Sent}
use Rattle.chain.specs.Refusal.{number_of}
use Rattle.chain.specs.declared.refusal.Refusal.{Refusal}
use Rattle.equations.specs.declared.verdict.Verdict.{Verdict}
use Rattle.equations.specs.declared.verdict.Verdict.TheVariants.{Yes, No}

-- A state's share differs from what is asked of it: the whole at a goal, else its equation where a path leads to a goal, else 0.
abbrev pub Differs : Bool → Bool → ℕ → ℕ → ℕ → ℕ → Type 0
Differs true leads whole share denominator carried = share ≡ whole → ⊥
Differs false true whole share denominator carried = denominator * share ≡ carried → ⊥
Differs false false whole share denominator carried = share ≡ 0 → ⊥

-- The same of state i of n, from the sets of the goals and of the states with a path to one, and from tables.
abbrev pub DiffersAt : ℕ → ℕ → ℕ → ℕ → List ℕ → List ℕ → List ℕ → ℕ → Type 0
DiffersAt n goals good whole shares denominators carried i =
    (i < n) × Differs (eqb (bit goals i) 1) (eqb (bit good i) 1) whole (get_or shares i 0) (get_or denominators i 0) (get_or carried i 0)

-- The products of n states have room in 64 bits.
pub record Fits (n : ℕ) (shares denominators : List ℕ) : Type 0 where
  pub few : n ≤ most_states
  pub small : (i : ℕ) → i < n → get_or denominators i 0 * get_or shares i 0 < 2 ^ 64

-- A table for each state of a well-formed chain, and the set of the states with a path to a goal.
pub record Known (l : Lent) (table : List ℕ) (good : ℕ) : Type 0 where
  pub sent : Sent l table
  pub leads : (i : ℕ) → (bit good i ≡ 1) ↔ ToGoal l.chain i

-- Document 01's numbers for each case of a verdict.
abbrev pub told : Result Verdict Refusal → Said
told (Ok Yes) = right
told (Ok (No i)) = wrong i
told (Err r) = refusal (number_of r.fault) r.place
