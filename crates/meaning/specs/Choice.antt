-- Choosing an order (request 11): at each turn the live state, not the start, with the least product; then the states passed over.
use Rattle.std.specs.Prelude.{ℕ, zero, suc, ◌*◌, ◌≤◌, ◌<◌, ◌≡◌, Bool, true, List, [], ◌∷◌, ◌++◌, length, get_or, drop}
use Rattle.meaning.specs.Number.{sum_to, choose}
use Rattle.meaning.specs.Chain.{Chain}
use Rattle.meaning.specs.Row.{exact}
use Rattle.meaning.specs.Step.{Table, row, Sets, Right, goes}
use Rattle.meaning.specs.Refusal.{Lent, plain, bare, Refused, WellFormed}
use Rattle.meaning.specs.Stop.{earns, table_at}
use Rattle.meaning.specs.Steps.{rows_to, columns_of}
use Rattle.meaning.specs.Block.{Input}
use Rattle.meaning.specs.File.{FileRefused, Accepted, bare_in}

-- The product by which a state is chosen: the rows leading to it times the columns that it leads to, as the step list counts them.
abbrev pub product : ℕ → ℕ → Table → ℕ
product n s t = rows_to n s t * columns_of n s (row t s)

-- A chain with an order, and nothing else.
abbrev pub ordered : Chain → List ℕ → Lent
ordered c o = record { chain = c; order = o; rewards = []; work = []; list = 0 }

-- The table of the exact chance after the first p positions of the order o.
abbrev pub exact_at : Chain → Sets → List ℕ → ℕ → Table
exact_at c k o p = table_at (earns plain (ordered c o)) exact (ordered c o) k p

-- The product of state s there.
abbrev pub product_at : Chain → Sets → List ℕ → ℕ → ℕ → ℕ
product_at c k o p s = product c.states s (exact_at c k o p)

-- i is left after the first p positions of the order: it is live, not the start, and stands at none of them.
pub record Left (c : Chain) (k : Sets) (o : List ℕ) (p i : ℕ) : Type 0 where
  pub going : goes c.start k.live i ≡ true
  pub unseen : (q : ℕ) → q < p → get_or o q 0 ≡ i → ⊥

-- After the first p positions it is the turn of s: of the states that are left it has the least product, and the lowest number on a tie.
pub record Next (c : Chain) (k : Sets) (o : List ℕ) (p s : ℕ) : Type 0 where
  pub left : Left c k o p s
  pub least : (i : ℕ) → Left c k o p i → product_at c k o p s ≤ product_at c k o p i
  pub lowest : (i : ℕ) → Left c k o p i → product_at c k o p i ≡ product_at c k o p s → s ≤ i

-- The states below n that are passed over, rising.
unfoldable pub passed_over : (ℕ → Bool) → ℕ → List ℕ
passed_over go zero = []
passed_over go (suc n) = choose (go n) (passed_over go n) (passed_over go n ++ (n ∷ []))

-- o is the chosen order: m turns, at each of them the state whose turn it is, until none is left; then the states passed over.
pub record Chosen (c : Chain) (k : Sets) (o : List ℕ) (m : ℕ) : Type 0 where
  pub size : length o ≡ c.states
  pub turns : (p : ℕ) → p < m → Next c k o p (get_or o p 0)
  pub done : (i : ℕ) → Left c k o m i → ⊥
  pub rest : drop m o ≡ passed_over (goes c.start k.live) c.states

-- The sum of the products of the first m turns.
abbrev pub products_to : Chain → Sets → List ℕ → ℕ → ℕ
products_to c k o m = sum_to (λ p. product_at c k o p (get_or o p 0)) m

-- What the part answers: a refusal's number and place, or 0 and the sum of the products.
pub record Choice : Type 0 where
  pub number : ℕ
  pub place : ℕ
  pub sum : ℕ

abbrev pub no_choice : ℕ → ℕ → Choice
no_choice number place = record { number = number; place = place; sum = 0 }

abbrev pub choice : ℕ → Choice
choice sum = record { number = 0; place = 0; sum = sum }

-- It is lent a chain alone, and a list. 1 comes also for a list of another length than n; then 3 to 9. A refusal leaves the list.
pub data ChoiceOutcome (l : Lent) (before : List ℕ) (a : Choice) (after : List ℕ) : Type 0 where
  list_wrong : (length before ≡ l.chain.states → ⊥) → a ≡ no_choice 1 0 → after ≡ before → ChoiceOutcome l before a after
  refused : length before ≡ l.chain.states → (number place : ℕ) → Refused bare l number place → a ≡ no_choice number place → after ≡ before
      → ChoiceOutcome l before a after
  chosen : length before ≡ l.chain.states → WellFormed bare l → (k : Sets) → Right l.chain k → (m : ℕ) → Chosen l.chain k after m
      → a ≡ choice (products_to l.chain k after m)
      → ChoiceOutcome l before a after

-- The order that is chosen for the chain of a file: the file's refusal, 20 to 24, comes first and leaves the list. Else an order is chosen for its
-- chain: 1 where the list is not n long, then 3 to 9, or the order and the sum. The file's own order is not looked at.
pub data FileChoice (f : Input) (before : List ℕ) (a : Choice) (after : List ℕ) : Type 0 where
  file_refused : (number place : ℕ) → FileRefused f number place → a ≡ no_choice number place → after ≡ before → FileChoice f before a after
  asked : Accepted f → ChoiceOutcome (bare_in f) before a after → FileChoice f before a after
