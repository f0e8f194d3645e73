-- What is asked and told of the whole order.
use Rattle.std.specs.Prelude.{ℕ, ◌≡◌, List, [], length}
use Rattle.meaning.specs.Step.{Right}
use Rattle.meaning.specs.Refusal.{bare, WellFormed}
use Rattle.meaning.specs.Choice.{Chosen, products_to}
use Rattle.chain.specs.declared.Chain.{Chain}
use Rattle.chain.specs.Lent.{lent}
use Rattle.survey.specs.Sets.{chain_of, sets_of}
use Rattle.survey.specs.declared.Sets.{Sets}

-- The chain is well formed, the sets are its own, and the list has a place for each state.
pub record Surveyed (c : Chain) (denominators edges : List ℕ) (sets : Sets) (order : List ℕ) : Type 0 where
  pub formed : WellFormed bare (lent c denominators edges [] [] [])
  pub right : Right (chain_of c denominators edges) (sets_of sets)
  pub size : length order ≡ c.states

-- The list is the chosen order, and the number the sum of its products.
pub record Ordered (c : Chain) (denominators edges : List ℕ) (sets : Sets) (order : List ℕ) (sum : ℕ) : Type 0 where
  pub count : ℕ
  pub chosen : Chosen (chain_of c denominators edges) (sets_of sets) order count
  pub sums : sum ≡ products_to (chain_of c denominators edges) (sets_of sets) order count
