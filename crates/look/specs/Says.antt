-- What a looking says: what is lent is well formed, or the least number that applies, at its least place.
use Rattle.std.specs.Prelude.{ℕ, ◌≤◌, ◌<◌, ◌≡◌, Bool, true, false, List, length, Result, Ok, Err}
use Rattle.meaning.specs.Chain.{most_states, most_edges, edge_count}
use Rattle.meaning.specs.Refusal.{Lent, Entry, Applies, Refused, Finding as Numbers, finding, LookOutcome}
use Rattle.chain.specs.declared.given.Given.{Given}
use Rattle.chain.specs.declared.refusal.Refusal.{Refusal}
use Rattle.chain.specs.Given.{with}
use Rattle.chain.specs.Refusal.{number_of}

-- What a looking answers.
abbrev pub Finding : Type 0
Finding = Result Unit Refusal

-- Document 01's numbers for each case. A refusal's number is above 0, so that nothing but Ok says that no number applies.
abbrev pub told : Finding → Numbers
told (Ok u) = finding 0 0
told (Err r) = finding (number_of r.fault) r.place

abbrev pub Looks : Entry → Lent → Finding → Type 0
Looks x l r = LookOutcome x l (told r)

-- No number below k applies.
pub record Upto (x : Entry) (l : Lent) (k : ℕ) : Type 0 where
  pub clear : (j : ℕ) → j < k → (p : ℕ) → Applies x l j p → ⊥

-- What is said before the numbers from k on are looked at.
abbrev pub upto : Entry → Lent → ℕ → Finding → Type 0
upto x l k (Ok u) = Upto x l k
upto x l k (Err r) = Refused x l (number_of r.fault) r.place

-- What is said of the chain's own faults, 3 to 9, whatever else is lent, by an entry whose rows may fall short or not.
abbrev pub own : Given → Bool → Finding → Type 0
own g short r =
    (x : Entry) → x.short ≡ short → (order rewards work : List ℕ) → let l = with g order rewards work in Upto x l 3 → upto x l 10 r

-- What is given for the length of a table that may not be lent: its length, or n for none.
abbrev pub counted : Bool → ℕ → ℕ → ℕ → Type 0
counted true length n given = length ≡ given
counted false length n given = (length ≡ 0) × (n ≡ given)

-- The lengths that the scans lean on.
pub record Shaped (n : ℕ) (denominators edges : List ℕ) : Type 0 where
  pub few_states : n ≤ most_states
  pub denominators_length : length denominators ≡ n
  pub few_edges : edge_count edges ≤ most_edges
