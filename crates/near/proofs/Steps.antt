-- A step over the rows of words.
use Rattle.std.proofs.Common.{◌≡◌, ℕ, ◌+◌, ◌<◌, ◌≤◌, Bool, true, false, List, length, get_or, take, sym, refl, ◌∙◌, arith, length-set, length-take-le, get_or-set_other, get_or-take, ext_get_or, le-ltb, lt-ltb}
use Rattle.meaning.specs.Number.{only, choose}
use Rattle.meaning.specs.Chain.{most_states}
use Rattle.meaning.specs.Row.{width}
use Rattle.meaning.specs.Refusal.{work_size}
use Rattle.elimination.specs.Table.{part_at}
use Rattle.elimination.proofs.Tables.{length_row}
use Rattle.near.specs.Row.{replaced_words}
use Rattle.near.proofs.Rows.{replaced_length}
use Rattle.near.specs.Step.{leads_to, renewed_words, pivot_at}

module _ (s d : ℕ) (p r : List ℕ) where
  pub renewed_none : get_or r s 0 ≡ 0 → (renewed_words s d p r ≡ r) × (only (leads_to s r) 1 ≡ 0)
  unfolding renewed_words
  renewed_none z = (rw (le-ltb 0 (get_or r s 0) (omega arith)) refl, rw (le-ltb 0 (get_or r s 0) (omega arith)) refl)

  pub renewed_some : 0 < get_or r s 0 → (renewed_words s d p r ≡ replaced_words s d p r) × (only (leads_to s r) 1 ≡ 1)
  unfolding renewed_words
  renewed_some h = (rw (lt-ltb 0 (get_or r s 0) h) refl, rw (lt-ltb 0 (get_or r s 0) h) refl)

  pub renewed_length : length (renewed_words s d p r) ≡ length r
  unfolding renewed_words
  renewed_length = go (leads_to s r)
    where
      go : (b : Bool) → length (choose b (replaced_words s d p r) r) ≡ length r
      go true = replaced_length s d p r
      go false = refl

-- A copy of the row of s, without its own weight, at the front of a longer list.
module _ (n s : ℕ) (w : List ℕ) (few : n ≤ most_states) (room : work_size n ≤ length w) (inside : s < n) (p : List ℕ) (size : length p ≡ width most_states) where
  pub copy_length : length (take (n + 4) p) ≡ n + 4
  copy_length = length-take-le (n + 4) p (omega arith)

  pub copy_is : ((j : ℕ) → get_or p j 0 ≡ get_or (pivot_at n s w) j 0) → take (n + 4) p ≡ pivot_at n s w
  copy_is e =
      ext_get_or 0 (take (n + 4) p) (pivot_at n s w) (copy_length ∙ sym (length-set (part_at n w s) s 0 ∙ length_row n w room s inside))
      (λ j h. get_or-take (n + 4) p j 0 (omega (arith, copy_length)) ∙ e j)

  -- It has the row's own numbers but for that weight.
  pub copy_cell : ((j : ℕ) → get_or p j 0 ≡ get_or (pivot_at n s w) j 0) → (j : ℕ) → s < j → get_or p j 0 ≡ get_or (part_at n w s) j 0
  copy_cell e j h = e j ∙ get_or-set_other (part_at n w s) s j 0 0 (λ q. omega arith)
