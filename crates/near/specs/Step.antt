-- A table of words once a state is removed.
use Rattle.std.specs.Prelude.{◌≡◌, ℕ, ◌+◌, ◌<◌, ◌≤◌, Bool, false, List, length, replicate, ◌==◌, ◌≢◌, nat_lt, slice_index, slice_set}
use Rattle.meaning.specs.Number.{sum_to, only, choose}
use Rattle.meaning.specs.Row.{width}
use Rattle.meaning.specs.Near.{cut_sum}
use Rattle.elimination.specs.Table.{part_at, Kept}
use Rattle.near.specs.Word.{word}
use Rattle.near.specs.Row.{value_at, settled_words, replaced_words}

-- A row has a weight to s.
abbrev pub leads_to : ℕ → List ℕ → Bool
leads_to s r = nat_lt 0 (slice_index r s)

-- A row of words that is not that of s once s is removed, whose row is p, without its own weight, and whose D is d.
unfoldable pub renewed_words : ℕ → ℕ → List ℕ → List ℕ → List ℕ
renewed_words s d p r = choose (leads_to s r) (replaced_words s d p r) r

-- In v the rows of w from `from` to before `to` are renewed, and the others as they were; `rows` of them were made anew.
pub record RenewedOn (n s d : ℕ) (p : List ℕ) (from to : ℕ) (w v : List ℕ) (rows : ℕ) : Type 0 where
  pub ordered : from ≤ to
  pub kept : Kept n w v
  pub new : (k : ℕ) → from ≤ k → k < to → part_at n v k ≡ renewed_words s d p (part_at n w k)
  pub before : (k : ℕ) → k < from → k < n → part_at n v k ≡ part_at n w k
  pub after : (k : ℕ) → to ≤ k → k < n → part_at n v k ≡ part_at n w k
  pub few : rows + from ≤ to
  pub count : rows + sum_to (λ k. only (leads_to s (part_at n w k)) 1) from ≡ sum_to (λ k. only (leads_to s (part_at n w k)) 1) to

-- Row k is made anew where it is not that of s, and has a weight to s.
abbrev pub renews : ℕ → ℕ → List ℕ → Bool
renews s k r = choose (k == s) false (leads_to s r)

-- In v the state s, whose row is p and whose D is d, is removed from the table in w.
pub record RenewedRows (n s d : ℕ) (p w v : List ℕ) (rows : ℕ) : Type 0 where
  pub kept : Kept n w v
  pub own : part_at n v s ≡ replicate (width n) 0
  pub new : (k : ℕ) → k < n → (k ≢ s) → part_at n v k ≡ renewed_words s d p (part_at n w k)
  pub few : rows ≤ n
  pub count : rows ≡ sum_to (λ k. only (renews s k (part_at n w k)) 1) n

-- The row of s in w, without its own weight; and its D.
abbrev pub pivot_at : ℕ → ℕ → List ℕ → List ℕ
pivot_at n s w = slice_set (part_at n w s) s 0

abbrev pub sum_of : List ℕ → ℕ
sum_of p = word (cut_sum (value_at p) (length p))

abbrev pub outside_at : ℕ → ℕ → List ℕ → ℕ
outside_at n s w = sum_of (pivot_at n s w)

-- In v the state s, whose row is p, is removed from the table in w.
abbrev pub RemovedBy : ℕ → ℕ → List ℕ → List ℕ → List ℕ → ℕ → Type 0
RemovedBy n s p w v rows = RenewedRows n s (sum_of p) p w v rows

-- In v the state s is removed from the table in w. Its row is settled first, so that no exponent doubles.
abbrev pub RemovedWords : ℕ → ℕ → List ℕ → List ℕ → ℕ → Type 0
RemovedWords n s w v rows = RemovedBy n s (settled_words (pivot_at n s w)) w v rows
